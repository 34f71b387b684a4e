-- What the refusals leave: the lists of every account that the machine has accepted.
use Rattle.std.proofs.Common.{◌≡◌, ℕ, zero, suc, ◌+◌, ◌≤◌, ◌<◌, Bool, true, false, cond, ◌||◌, List, [], ◌∷◌, ◌++◌, length, refl, sym, ap, ◌∙◌, subst, arith, Option, Some, None, eqb, leb, ltb, max}
use Rattle.std.specs.Option.{option_or, option_map}
use Rattle.std.specs.List.{All, count_by, filter_map, cons_option, list_any}
use Rattle.std.proofs.lemmas.Bool.{eqb-true, eq-eqb}
use Rattle.std.proofs.lemmas.List.{append-nil, length-append}
use Rattle.std.proofs.lemmas.List.Sums.{sum_by-append, sum_by-cons}
use Rattle.std.proofs.lemmas.Bool.Decides.{nat_tests}
use Rattle.std.proofs.lemmas.List.Elements.{All-nil, All-cons, All-head, All-tail, All-push, All-weaker}
use Rattle.std.specs.Str.{bytes_eq}
use Rattle.card_events.specs.History.{at_number, is_open, terms_in, terms_of}
use Rattle.card_events.specs.Keys.{with_key}
use Rattle.card_events.specs.Limits.{post_limit}
use Rattle.card_events.specs.SharedRows.{FeeRow, SharedRows, fee_row_of, shared_rows}
use Rattle.card_events.specs.declared.kept.Kept.{Kept}
use Rattle.card_events.specs.declared.post.Post.{Post}
use Rattle.card_events.specs.declared.post.Terms.{Terms}
use Rattle.card_events.specs.declared.reply.Refusal.{Refusal}
use Rattle.card_events.specs.declared.request.Request.{Request}
use Rattle.card_events.specs.declared.request.Shared.{Shared}
use Rattle.card_model.specs.Accepted.{AreAccepted, AreInRange, AreResolvedOnce, AreSingle, HasFewCents, HasFewFees, HasFewRates, RunsAreAccepted, posted_cents, posted_rate}
use Rattle.card_model.specs.Caps.{row_for}
use Rattle.card_model.specs.Cycles.{Cycle, IssuedRow, Sheet}
use Rattle.card_model.specs.Deadlines.{resolves}
use Rattle.card_model.specs.Folds.{cycle_at, row_of_cycle}
use Rattle.card_model.specs.Machine.{Accepts, NamedAccount, Outcome, Refuses, Repeats, State, accepted, accounts_after, at_key, has_accounts, is_repeat_of, issues, judged, kept_as, lists_of, next_number, opened, outcome, outcome_in, run, run_from, shared_reason, start, step, with_lists, with_shared}
use Rattle.card_model.specs.Refusals.{Lists, Present, account_full, bad_terms_of, bills, book_today, day_ahead, first_reason, is_no_amount, is_out_of_range, no_index, no_open_dispute, number_from, reason_against, reason_to_open, reasons, where_true, wrong_entry}
use Rattle.card_events.specs.declared.reply.Refusal.TheVariants as refusal
use Rattle.card_events.specs.declared.request.Request.TheVariants as request
use Rattle.card_events.specs.declared.request.Shared.TheVariants as shared
use Rattle.card_events.specs.declared.post.Post.TheVariants as post
use Rattle.card_events.specs.Money.{rate_limit}
use Rattle.card_model.specs.Sheets.{issued_sheet_of}
use Rattle.card_model.proofs.Indexed.{runs-are-indexed}
use Rattle.card_model.proofs.Issue.{row_for-append}

-- ---- no reason stands
-- what comes first is none where nothing comes
pub first-none : (r : Option Refusal) (rs : List (Option Refusal)) → first_reason (r ∷ rs) ≡ None → (r ≡ None) × (first_reason rs ≡ None)
first-none None rs h = (refl, h)
first-none (Some x) rs h = cc

abbrev pub AllNone : List (Option Refusal) → Type 0
AllNone [] = Unit {0}
AllNone (r ∷ rs) = (r ≡ None) × AllNone rs

pub all-none : (rs : List (Option Refusal)) → first_reason rs ≡ None → AllNone rs
all-none [] h = tt
all-none (r ∷ rs) h = let parts = first-none r rs h in (parts.0, all-none rs parts.1)

pub where-false : (b : Bool) (r : Refusal) → where_true b r ≡ None → b ≡ false
where-false true r h = cc
where-false false r h = refl

pub or-false : (a b : Bool) → (a || b) ≡ false → (a ≡ false) × (b ≡ false)
or-false true b h = cc
or-false false b h = (refl, h)

pub mapped-none : {A B : Type 0} (f : A → B) (o : Option A) → option_map f o ≡ None → o ≡ None
mapped-none f None h = refl
mapped-none f (Some x) h = cc

-- the reasons that the lists rely on
pub record NoReason (now : Present) (p : Post) : Type 0 where
  pub range : is_out_of_range now p ≡ false
  pub wrong_entry : wrong_entry now p ≡ None
  pub no_open_dispute : no_open_dispute now p ≡ None
  pub account_full : account_full now ≡ None

no-reason : (now : Present) (p : Post) → reason_against now p ≡ None → NoReason now p
unfolding reason_against
no-reason now p h =
    let none = all-none (reasons now p) h in
    record { range = where-false _ _ none.0; wrong_entry = none.1.1.1.1.1.1.1.1.0; no_open_dispute = none.1.1.1.1.1.1.1.1.1.1.1.1.1.1.1.1.0; account_full = none.1.1.1.1.1.1.1.1.1.1.1.1.1.1.1.1.1.1.1.1.0 }

-- ---- cents
not-above : (n m : ℕ) → ltb m n ≡ false → n ≤ m
not-above n m h = grind (arith, nat_tests)

amount-few : (n : ℕ) → is_no_amount n ≡ false → n ≤ 1000000000
amount-few n h = let parts = or-false (eqb n 0) (ltb 1000000000 n) h in not-above n 1000000000 parts.1

few-cents : (now : Present) (p : Post) → is_out_of_range now p ≡ false → posted_cents p ≤ 1000000000
unfolding is_out_of_range
few-cents now (post.Charge d q c) h = amount-few c h
few-cents now (post.Credit d q c) h = amount-few c h
few-cents now (post.Payment d m y c) h = let parts = or-false (is_no_amount c) _ h in amount-few c parts.0
few-cents now (post.Refund c) h = amount-few c h
few-cents now (post.Dispute d t c) h = amount-few c h
few-cents now (post.Amend t d c) h = not-above c 1000000000 h
few-cents now (post.Resolve d t c) h = let parts = or-false (ltb 1000000000 c) _ h in not-above c 1000000000 parts.0
few-cents now (post.Open d t) h = omega arith
few-cents now (post.OpenVariable d t) h = omega arith
few-cents now (post.Return d t) h = omega arith
few-cents now (post.Plan d k r e f) h = omega arith
few-cents now (post.Notice d c r e) h = omega arith
few-cents now (post.Lower d c r) h = omega arith
few-cents now post.Penalty h = omega arith
few-cents now (post.Review d f) h = omega arith
few-cents now (post.Ack d t) h = omega arith
few-cents now (post.AskRefund d) h = omega arith
few-cents now (post.Bill c) h = omega arith

-- ---- rates and terms
-- a post that is no opening
few-rates : (now : Present) (p : Post) → is_open p ≡ false → is_out_of_range now p ≡ false → posted_rate p ≤ rate_limit
unfolding is_out_of_range
few-rates now (post.Plan d k r e f) o h =
    let parts = or-false (ltb rate_limit r) (ltb rate_limit f) h in
    let rate = not-above r rate_limit parts.0 in
    let after = not-above f rate_limit parts.1 in
    omega arith
few-rates now (post.Notice d c r e) o h = not-above r rate_limit h
few-rates now (post.Lower d c r) o h = not-above r rate_limit h
few-rates now (post.Open d t) o h = cc
few-rates now (post.OpenVariable d t) o h = cc
few-rates now (post.Charge d q c) o h = omega arith
few-rates now (post.Credit d q c) o h = omega arith
few-rates now (post.Payment d m y c) o h = omega arith
few-rates now (post.Return d t) o h = omega arith
few-rates now post.Penalty o h = omega arith
few-rates now (post.Review d f) o h = omega arith
few-rates now (post.Dispute d t c) o h = omega arith
few-rates now (post.Ack d t) o h = omega arith
few-rates now (post.Resolve d t c) o h = omega arith
few-rates now (post.AskRefund d) o h = omega arith
few-rates now (post.Refund c) o h = omega arith
few-rates now (post.Amend t d c) o h = omega arith
few-rates now (post.Bill c) o h = omega arith

pub record GoodOpening (p : Post) : Type 0 where
  pub rate : posted_rate p ≤ rate_limit
  pub terms : AreInRange (terms_in p)

above-zero : (n : ℕ) → eqb n 0 ≡ false → 1 ≤ n
above-zero zero h = cc
above-zero (suc n) h = omega arith

terms-reasons : Terms → List (Option Refusal)
terms-reasons t =
    where_true ((eqb t.close 0) || ltb 28 t.close) (refusal.BadTerms 1)
    ∷ where_true (ltb rate_limit t.purchase) (refusal.BadTerms 2)
    ∷ where_true (ltb rate_limit t.cash) (refusal.BadTerms 3)
    ∷ where_true (ltb rate_limit t.transfer) (refusal.BadTerms 4)
    ∷ where_true (ltb rate_limit t.penalty) (refusal.BadTerms 5)
    ∷ where_true (ltb 1000000 t.floor) (refusal.BadTerms 6)
    ∷ where_true (ltb 10000 t.pct) (refusal.BadTerms 7) ∷ []

pub record GoodTerms (t : Terms) : Type 0 where
  pub rate : max (max t.purchase t.cash) (max t.transfer t.penalty) ≤ rate_limit
  pub terms : AreInRange t

good-terms : (t : Terms) → bad_terms_of t ≡ None → GoodTerms t
unfolding terms-reasons
good-terms t h =
    let none = all-none (terms-reasons t) h in
    let close = or-false (eqb t.close 0) (ltb 28 t.close) (where-false _ _ none.0) in
    let purchase = not-above t.purchase rate_limit (where-false _ _ none.1.0) in
    let cash = not-above t.cash rate_limit (where-false _ _ none.1.1.0) in
    let transfer = not-above t.transfer rate_limit (where-false _ _ none.1.1.1.0) in
    let penalty = not-above t.penalty rate_limit (where-false _ _ none.1.1.1.1.0) in
    record {
      rate = omega arith;
      terms = record {
        first_close_day = above-zero t.close close.0;
        last_close_day = not-above t.close 28 close.1;
        floor = not-above t.floor 1000000 (where-false _ _ none.1.1.1.1.1.0);
        pct = not-above t.pct 10000 (where-false _ _ none.1.1.1.1.1.1.0);
      };
    }

-- against an opening there is no other first reason
good-opening : (today accounts : ℕ) (shared : SharedRows) (p : Post) → is_open p ≡ true → reason_to_open today accounts shared p ≡ None → GoodOpening p
unfolding reason_to_open
good-opening today accounts shared (post.Open d t) o h =
    let first = first-none (bad_terms_of t) (day_ahead today (post.Open d t) ∷ no_index shared.index (post.Open d t) ∷ where_true (leb 1000000 accounts) refusal.LedgerFull ∷ []) h in
    let good = good-terms t first.0 in
    record { rate = good.rate; terms = good.terms }
good-opening today accounts shared (post.OpenVariable d t) o h =
    let first = first-none (bad_terms_of t) (day_ahead today (post.OpenVariable d t) ∷ no_index shared.index (post.OpenVariable d t) ∷ where_true (leb 1000000 accounts) refusal.LedgerFull ∷ []) h in
    let good = good-terms t first.0 in
    record { rate = good.rate; terms = good.terms }
good-opening today accounts shared (post.Charge d p c) o h = cc
good-opening today accounts shared (post.Credit d p c) o h = cc
good-opening today accounts shared (post.Payment d m y c) o h = cc
good-opening today accounts shared (post.Return d t) o h = cc
good-opening today accounts shared (post.Plan d g r f a) o h = cc
good-opening today accounts shared (post.Notice d c r f) o h = cc
good-opening today accounts shared (post.Lower d c r) o h = cc
good-opening today accounts shared post.Penalty o h = cc
good-opening today accounts shared (post.Review d f) o h = cc
good-opening today accounts shared (post.Dispute d t c) o h = cc
good-opening today accounts shared (post.Ack d t) o h = cc
good-opening today accounts shared (post.Resolve d t c) o h = cc
good-opening today accounts shared (post.AskRefund d) o h = cc
good-opening today accounts shared (post.Refund c) o h = cc
good-opening today accounts shared (post.Amend t d c) o h = cc
good-opening today accounts shared (post.Bill c) o h = cc

-- ---- Resolves
abbrev resolvers : ℕ → List Kept → ℕ
resolvers n posts = count_by (λ k. resolves n k.post) posts

resolvers-cons : (n : ℕ) (k : Kept) (ks : List Kept) → resolvers n (k ∷ ks) ≡ cond (resolves n k.post) 1 0 + resolvers n ks
resolvers-cons n k ks = sum_by-cons (λ (x : Kept). cond (resolves n x.post) 1 0) k ks

resolvers-push : (n : ℕ) (ks : List Kept) (k : Kept) → resolvers n (ks ++ k ∷ []) ≡ resolvers n ks + cond (resolves n k.post) 1 0
resolvers-push n ks k =
    sum_by-append (λ (x : Kept). cond (resolves n x.post) 1 0) ks (k ∷ [])
    ∙ ap (λ m. resolvers n ks + m) (resolvers-cons n k [] ∙ omega arith)

none-resolves : (n : ℕ) (ks : List Kept) → list_any (λ k. resolves n k.post) ks ≡ false → resolvers n ks ≡ 0
none-resolves n [] h = refl
none-resolves n (k ∷ ks) h =
    let parts = or-false (resolves n k.post) (list_any (λ k. resolves n k.post) ks) h in
    resolvers-cons n k ks ∙ rw (parts.0, none-resolves n ks parts.1) refl

-- a post that is no Resolve of a resolved Dispute
still-once : (now : Present) (k : Kept) → no_open_dispute now k.post ≡ None → AreResolvedOnce now.lists.posts → AreResolvedOnce (now.lists.posts ++ k ∷ [])
unfolding no_open_dispute
still-once now k h once n = by (resolves n k.post) refl (once n)
  where
    none-before : (p : Post) → resolves n p ≡ true → no_open_dispute now p ≡ None → resolvers n now.lists.posts ≡ 0
    none-before (post.Resolve d t c) e h =
        let same = eqb-true t n e in
        none-resolves n now.lists.posts (subst (λ m. list_any (λ k. resolves m k.post) now.lists.posts ≡ false) same (where-false _ _ h))
    none-before (post.Open d t) e h = cc
    none-before (post.OpenVariable d t) e h = cc
    none-before (post.Charge d p c) e h = cc
    none-before (post.Credit d p c) e h = cc
    none-before (post.Payment d m y c) e h = cc
    none-before (post.Return d t) e h = cc
    none-before (post.Plan d g r f a) e h = cc
    none-before (post.Notice d c r f) e h = cc
    none-before (post.Lower d c r) e h = cc
    none-before post.Penalty e h = cc
    none-before (post.Review d f) e h = cc
    none-before (post.Dispute d t c) e h = cc
    none-before (post.Ack d t) e h = cc
    none-before (post.AskRefund d) e h = cc
    none-before (post.Refund c) e h = cc
    none-before (post.Amend t d c) e h = cc
    none-before (post.Bill c) e h = cc

    by : (t : Bool) → resolves n k.post ≡ t → resolvers n now.lists.posts ≤ 1 → resolvers n (now.lists.posts ++ k ∷ []) ≤ 1
    by true e l = let none = none-before k.post e h in let sum = resolvers-push n now.lists.posts k in rw (sum, e, none) (omega arith)
    by false e l = let sum = resolvers-push n now.lists.posts k in rw (sum, e) (omega arith)

-- ---- issued rows
-- a Bill of the cycle of each row
abbrev IsBilled : List Kept → IssuedRow → Type 0
IsBilled posts r = number_from (bills r.cycle) 1 posts ≡ None → ⊥

number-push : (p : Post → Bool) (n : ℕ) (ks : List Kept) (k : Kept) → number_from p n (ks ++ k ∷ []) ≡ None → number_from p n ks ≡ None
unfolding number_from
number-push p n [] k h = refl
number-push p n (x ∷ ks) k h = by (p x.post) h (number-push p (suc n) ks k)
  where
    by : (t : Bool) → cond t (Some n) (number_from p (suc n) (ks ++ k ∷ [])) ≡ None → (number_from p (suc n) (ks ++ k ∷ []) ≡ None → number_from p (suc n) ks ≡ None) → cond t (Some n) (number_from p (suc n) ks) ≡ None
    by true e i = cc
    by false e i = i e

number-here : (p : Post → Bool) (n : ℕ) (ks : List Kept) (k : Kept) → p k.post ≡ true → number_from p n (ks ++ k ∷ []) ≡ None → ⊥
unfolding number_from
number-here p n [] k e h = by (p k.post) e h
  where
    by : (t : Bool) → t ≡ true → cond t (Some n) None ≡ None → ⊥
    by true e h = cc
    by false e h = cc
number-here p n (x ∷ ks) k e h = by (p x.post) h (number-here p (suc n) ks k e)
  where
    by : (t : Bool) → cond t (Some n) (number_from p (suc n) (ks ++ k ∷ [])) ≡ None → (number_from p (suc n) (ks ++ k ∷ []) ≡ None → ⊥) → ⊥
    by true q i = cc
    by false q i = i q

none-found : (cycle : ℕ) (posts : List Kept) (rows : List IssuedRow) → All (IsBilled posts) rows → number_from (bills cycle) 1 posts ≡ None → row_for cycle rows ≡ None
unfolding row_for
none-found cycle posts [] h e = refl
none-found cycle posts (r ∷ rows) h e = by (eqb r.cycle cycle) refl (All-head (IsBilled posts) r rows h) (none-found cycle posts rows (All-tail (IsBilled posts) r rows h) e)
  where
    by : (t : Bool) → eqb r.cycle cycle ≡ t → IsBilled posts r → row_for cycle rows ≡ None → cond t (Some r) (row_for cycle rows) ≡ None
    by true q b i = absurd (b (subst (λ c. number_from (bills c) 1 posts ≡ None) (sym (eqb-true r.cycle cycle q)) e))
    by false q b i = i

-- rows stay single with one of a cycle that has none
single-push : (rows : List IssuedRow) (r : IssuedRow) → row_for r.cycle rows ≡ None → AreSingle rows → AreSingle (rows ++ r ∷ [])
single-push rows r e h =
    All-push (λ x. row_for x.cycle (rows ++ r ∷ []) ≡ Some x) rows r
    (All-weaker (λ x. row_for x.cycle rows ≡ Some x) (λ x. row_for x.cycle (rows ++ r ∷ []) ≡ Some x) (λ x q. row_for-append x.cycle rows r ∙ ap (λ o. option_or o (cond (eqb r.cycle x.cycle) (Some r) None)) q) rows h)
    (row_for-append r.cycle rows r ∙ rw (e, eq-eqb r.cycle r.cycle refl) refl)

-- ---- the lists of an account
pub record Stands (l : Lists) : Type 0 where
  pub begun : 1 ≤ length l.posts
  pub accepted : AreAccepted l
  pub billed : All (IsBilled l.posts) l.issued

billed-push : (posts : List Kept) (rows : List IssuedRow) (k : Kept) → All (IsBilled posts) rows → All (IsBilled (posts ++ k ∷ [])) rows
billed-push posts rows k h = All-weaker (IsBilled posts) (IsBilled (posts ++ k ∷ [])) (λ r b e. b (number-push (bills r.cycle) 1 posts k e)) rows h

pub record NewRows (posts : List Kept) (rows new : List IssuedRow) (k : Kept) : Type 0 where
  pub single : AreSingle (rows ++ new)
  pub billed : All (IsBilled (posts ++ k ∷ [])) (rows ++ new)

no-rows : (posts : List Kept) (rows : List IssuedRow) (k : Kept) → AreSingle rows → All (IsBilled posts) rows → NewRows posts rows [] k
no-rows posts rows k s b = record { single = rw (append-nil rows) s; billed = rw (append-nil rows) (billed-push posts rows k b) }

bill-rows : (now : Present) (k : Kept) (cycle : ℕ) (sheet : Cycle → Sheet) (o : Option Cycle) (bill today : ℕ) → k.post ≡ post.Bill cycle → number_from (bills cycle) 1 now.lists.posts ≡ None → AreSingle now.lists.issued → All (IsBilled now.lists.posts) now.lists.issued
    → NewRows now.lists.posts now.lists.issued (row_of_cycle cycle bill today sheet o) k
bill-rows now k cycle sheet None bill today q e s b = no-rows now.lists.posts now.lists.issued k s b
bill-rows now k cycle sheet (Some c) bill today q e s b =
    let row : IssuedRow = record { cycle = cycle; bill = bill; day = today; statement = c; sheet = sheet c } in
    record {
      single = single-push now.lists.issued row (none-found cycle now.lists.posts now.lists.issued b e) s;
      billed = All-push (IsBilled (now.lists.posts ++ k ∷ [])) now.lists.issued row (billed-push now.lists.posts now.lists.issued k b) (λ h. number-here (bills cycle) 1 now.lists.posts k (rw q (eq-eqb cycle cycle refl)) h);
    }

issues-rows : (now : Present) (n : ℕ) (key : List ℕ) (p : Post) → wrong_entry now p ≡ None → AreSingle now.lists.issued → All (IsBilled now.lists.posts) now.lists.issued
    → NewRows now.lists.posts now.lists.issued (issues now p) (kept_as n key now.today p)
unfolding wrong_entry
issues-rows now n key (post.Bill cycle) h s b =
    bill-rows now (kept_as n key now.today (post.Bill cycle)) cycle (issued_sheet_of now) (cycle_at cycle (book_today now).cycles) (next_number now) now.today refl (mapped-none _ _ h) s b
issues-rows now n key (post.Open d t) h s b = no-rows _ _ _ s b
issues-rows now n key (post.OpenVariable d t) h s b = no-rows _ _ _ s b
issues-rows now n key (post.Charge d p c) h s b = no-rows _ _ _ s b
issues-rows now n key (post.Credit d p c) h s b = no-rows _ _ _ s b
issues-rows now n key (post.Payment d m y c) h s b = no-rows _ _ _ s b
issues-rows now n key (post.Return d t) h s b = no-rows _ _ _ s b
issues-rows now n key (post.Plan d g r f a) h s b = no-rows _ _ _ s b
issues-rows now n key (post.Notice d c r f) h s b = no-rows _ _ _ s b
issues-rows now n key (post.Lower d c r) h s b = no-rows _ _ _ s b
issues-rows now n key post.Penalty h s b = no-rows _ _ _ s b
issues-rows now n key (post.Review d f) h s b = no-rows _ _ _ s b
issues-rows now n key (post.Dispute d t c) h s b = no-rows _ _ _ s b
issues-rows now n key (post.Ack d t) h s b = no-rows _ _ _ s b
issues-rows now n key (post.Resolve d t c) h s b = no-rows _ _ _ s b
issues-rows now n key (post.AskRefund d) h s b = no-rows _ _ _ s b
issues-rows now n key (post.Refund c) h s b = no-rows _ _ _ s b
issues-rows now n key (post.Amend t d c) h s b = no-rows _ _ _ s b

one-more : (posts : List Kept) (k : Kept) → leb post_limit (length posts) ≡ false → length (posts ++ k ∷ []) ≤ post_limit
one-more posts k h = let more : length posts < post_limit = grind (arith, nat_tests) in rw (length-append posts (k ∷ [])) (omega arith)

same-terms : (posts : List Kept) (k : Kept) → 1 ≤ length posts → terms_of (posts ++ k ∷ []) ≡ terms_of posts
same-terms [] k l = absurd (omega arith)
same-terms (x ∷ posts) k l = refl

accepted-stands : (now : Present) (key : List ℕ) (p : Post) → is_open p ≡ false → reason_against now p ≡ None → Stands now.lists → Stands (accepted now key p)
unfolding accepted
accepted-stands now key p o h l =
    let free = no-reason now p h in
    let k = kept_as (next_number now) key now.today p in
    let rows = issues-rows now (next_number now) key p free.wrong_entry l.accepted.single l.billed in
    record {
      begun = rw (length-append now.lists.posts (k ∷ [])) (omega arith);
      accepted = record {
        terms = subst AreInRange (sym (same-terms now.lists.posts k l.begun)) l.accepted.terms;
        rates = All-push HasFewRates now.lists.posts k l.accepted.rates (few-rates now p o free.range);
        count = one-more now.lists.posts k (where-false _ _ free.account_full);
        cents = All-push HasFewCents now.lists.posts k l.accepted.cents (few-cents now p free.range);
        resolved = still-once now k free.no_open_dispute l.accepted.resolved;
        single = rows.single;
      };
      billed = rows.billed;
    }

opened-stands : (k : Kept) → is_open k.post ≡ true → GoodOpening k.post → Stands (record { posts = k ∷ []; issued = [] })
opened-stands k e g = record {
  begun = omega arith;
  accepted = record {
    terms = g.terms;
    rates = All-cons HasFewRates k [] g.rate (All-nil HasFewRates);
    count = omega arith;
    cents = All-cons HasFewCents k [] (few k.post e) (All-nil HasFewCents);
    resolved = λ n. rw (resolvers-cons n k []) (at_most n (resolves n k.post));
    single = All-nil (λ r. row_for r.cycle [] ≡ Some r);
  };
  billed = All-nil (IsBilled (k ∷ []));
}
  where
    at_most : (n : ℕ) (t : Bool) → cond t 1 0 + 0 ≤ 1
    at_most n true = omega arith
    at_most n false = omega arith

    few : (p : Post) → is_open p ≡ true → posted_cents p ≤ 1000000000
    few (post.Open d t) e = omega arith
    few (post.OpenVariable d t) e = omega arith
    few (post.Charge d p c) e = cc
    few (post.Credit d p c) e = cc
    few (post.Payment d m y c) e = cc
    few (post.Return d t) e = cc
    few (post.Plan d g r f a) e = cc
    few (post.Notice d c r f) e = cc
    few (post.Lower d c r) e = cc
    few post.Penalty e = cc
    few (post.Review d f) e = cc
    few (post.Dispute d t c) e = cc
    few (post.Ack d t) e = cc
    few (post.Resolve d t c) e = cc
    few (post.AskRefund d) e = cc
    few (post.Refund c) e = cc
    few (post.Amend t d c) e = cc
    few (post.Bill c) e = cc

-- ---- a step
-- what was accepted stands
StandsIf : Outcome → Type 0
StandsIf (Accepts new) = Stands new
StandsIf (Refuses r) = Unit {0}
StandsIf (Repeats n) = Unit {0}

judged-stands : (now : Present) (key : List ℕ) (p : Post) (r : Option Refusal) → is_open p ≡ false → reason_against now p ≡ r → Stands now.lists → StandsIf (judged now key p r)
unfolding StandsIf
judged-stands now key p (Some r) o e l = tt
judged-stands now key p None o e l = accepted-stands now key p o e l

either-stands : (t : Bool) (a b : Outcome) → StandsIf a → StandsIf b → StandsIf (cond t a b)
either-stands true a b h g = h
either-stands false a b h g = g

at_key-stands : (now : Present) (key : List ℕ) (p : Post) (o : Option ℕ) → Stands now.lists → StandsIf (at_key now key p o)
unfolding StandsIf
at_key-stands now key p (Some n) l = either-stands (is_repeat_of p (at_number n now.lists.posts)) _ _ tt tt
at_key-stands now key p None l = by (is_open p) refl
  where
    by : (t : Bool) → is_open p ≡ t → StandsIf (cond t (Refuses refusal.AccountExists) (judged now key p (reason_against now p)))
    by true o = tt
    by false o = judged-stands now key p (reason_against now p) o refl l

to_open-stands : (key : List ℕ) (today accounts : ℕ) (shared : SharedRows) (p : Post) (r : Option Refusal) → is_open p ≡ true → reason_to_open today accounts shared p ≡ r → StandsIf (opened key today p r)
unfolding StandsIf
to_open-stands key today accounts shared p (Some r) e h = tt
to_open-stands key today accounts shared p None e h = opened-stands (kept_as 1 key today p) e (good-opening today accounts shared p e h)

-- the lists of an account, where it is there
StandsThere : Option Lists → Type 0
StandsThere None = Unit {0}
StandsThere (Some l) = Stands l

outcome-stands : (today : ℕ) (rows : List Shared) (accounts : ℕ) (key : List ℕ) (p : Post) (o : Option Lists) → StandsThere o → StandsIf (outcome today rows accounts key p o)
unfolding outcome StandsThere StandsIf
outcome-stands today rows accounts key p None h = by (is_open p) refl
  where
    by : (t : Bool) → is_open p ≡ t → StandsIf (cond t (opened key today p (reason_to_open today accounts (shared_rows rows) p)) (Refuses refusal.UnknownAccount))
    by true e = to_open-stands key today accounts (shared_rows rows) p (reason_to_open today accounts (shared_rows rows) p) e refl
    by false e = tt
outcome-stands today rows accounts key p (Some l) h = at_key-stands (record { today = today; shared = shared_rows rows; lists = l }) key p (with_key key l.posts) h

abbrev AllStand : List NamedAccount → Type 0
AllStand accounts = All (λ (x : NamedAccount). Stands x.lists) accounts

lists-stand : (name : List ℕ) (accounts : List NamedAccount) → AllStand accounts → StandsThere (lists_of name accounts)
unfolding lists_of StandsThere
lists-stand name [] h = tt
lists-stand name (x ∷ xs) h = by (bytes_eq x.name name) (All-head (λ (x : NamedAccount). Stands x.lists) x xs h) (lists-stand name xs (All-tail (λ (x : NamedAccount). Stands x.lists) x xs h))
  where
    by : (t : Bool) → Stands x.lists → StandsThere (lists_of name xs) → StandsThere (cond t (Some x.lists) (lists_of name xs))
    by true h i = h
    by false h i = i

set-stands : (name : List ℕ) (l : Lists) (accounts : List NamedAccount) → Stands l → AllStand accounts → AllStand (with_lists name l accounts)
unfolding with_lists
set-stands name l [] g h = All-cons (λ (x : NamedAccount). Stands x.lists) _ [] g (All-nil (λ (x : NamedAccount). Stands x.lists))
set-stands name l (x ∷ xs) g h =
    by (bytes_eq x.name name) (All-head (λ (x : NamedAccount). Stands x.lists) x xs h) (All-tail (λ (x : NamedAccount). Stands x.lists) x xs h) (set-stands name l xs g (All-tail (λ (x : NamedAccount). Stands x.lists) x xs h))
  where
    by : (t : Bool) → Stands x.lists → AllStand xs → AllStand (with_lists name l xs) → AllStand (cond t (record { name = x.name; lists = l } ∷ xs) (x ∷ with_lists name l xs))
    by true h i j = All-cons (λ (x : NamedAccount). Stands x.lists) _ xs g i
    by false h i j = All-cons (λ (x : NamedAccount). Stands x.lists) x (with_lists name l xs) h j

after-stands : (name : List ℕ) (o : Outcome) (accounts : List NamedAccount) → StandsIf o → AllStand accounts → AllStand (accounts_after name o accounts)
unfolding StandsIf
after-stands name (Accepts new) accounts g h = set-stands name new accounts g h
after-stands name (Refuses r) accounts g h = h
after-stands name (Repeats n) accounts g h = h

-- ---- shared requests
abbrev FewFees : List Shared → Type 0
FewFees rows = All HasFewFees (filter_map fee_row_of rows)

fees-push : (rows : List Shared) (r : Shared) → FewFees rows → All HasFewFees (cons_option (fee_row_of r) []) → FewFees (rows ++ r ∷ [])
fees-push [] r h g = g
fees-push (x ∷ rows) r h g = by (fee_row_of x) h (λ i. fees-push rows r i g)
  where
    by : (o : Option FeeRow) → All HasFewFees (cons_option o (filter_map fee_row_of rows)) → (FewFees rows → FewFees (rows ++ r ∷ [])) → All HasFewFees (cons_option o (filter_map fee_row_of (rows ++ r ∷ [])))
    by None h i = i h
    by (Some f) h i = All-cons HasFewFees f _ (All-head HasFewFees f _ h) (i (All-tail HasFewFees f _ h))

shared-few : (today : ℕ) (any : Bool) (r : Shared) → shared_reason today any r ≡ None → All HasFewFees (cons_option (fee_row_of r) [])
unfolding shared_reason
shared-few today any (shared.Roll d) h = All-nil HasFewFees
shared-few today any (shared.Holiday d) h = All-nil HasFewFees
shared-few today any (shared.Index d r) h = All-nil HasFewFees
shared-few today any (shared.FeeRow d f r) h =
    let one = first-none (where_true (ltb 100000 f || ltb 100000 r || ltb r f) refusal.AmountRange) (where_true (leb d today) (refusal.PastRow today) ∷ []) h in
    let either = or-false (ltb 100000 f || ltb 100000 r) (ltb r f) (where-false _ _ one.0) in
    let few = or-false (ltb 100000 f) (ltb 100000 r) either.0 in
    All-cons HasFewFees (record { day = d; first = f; repeat = r }) [] (not-above f 100000 few.0, not-above r 100000 few.1) (All-nil HasFewFees)

pub record Good (s : State) : Type 0 where
  pub accounts : AllStand s.accounts
  pub fees : FewFees s.shared

shared-good : (s : State) (r : Shared) (o : Option Refusal) → shared_reason s.today (has_accounts s) r ≡ o → Good s → Good (with_shared s r o).0
shared-good s r (Some e) q g = g
shared-good s r None q g = record { accounts = g.accounts; fees = fees-push s.shared r g.fees (shared-few s.today (has_accounts s) r q) }

step-good : (s : State) (r : Request) → Good s → Good (step s r).0
unfolding step
step-good s (request.Shared r) g = shared-good s r (shared_reason s.today (has_accounts s) r) refl g
step-good s (request.Post name key p) g = record {
  accounts = after-stands name (outcome_in s name key p) s.accounts (outcome-stands s.today s.shared (length s.accounts) key p (lists_of name s.accounts) (lists-stand name s.accounts g.accounts)) g.accounts;
  fees = g.fees;
}

run-good : (s : State) (rs : List Request) → Good s → Good (run_from s rs)
unfolding run_from
run-good s [] g = g
run-good s (r ∷ rs) g = run-good (step s r).0 rs (step-good s r g)

pub runs_are_accepted : RunsAreAccepted
runs_are_accepted requests =
    let g = run-good start requests (record { accounts = All-nil (λ (x : NamedAccount). Stands x.lists); fees = All-nil HasFewFees }) in
    record {
      accounts = All-weaker (λ (x : NamedAccount). Stands x.lists) (λ (x : NamedAccount). AreAccepted x.lists) (λ x l. l.accepted) (run requests).accounts g.accounts;
      fees = g.fees;
      indexed = runs-are-indexed requests;
    }
