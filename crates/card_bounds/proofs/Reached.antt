-- Entries of payments and merchants' credits, after each front of a day's posts.
use Rattle.std.proofs.Common.{◌≡◌, ℕ, zero, suc, ◌+◌, ◌-◌, ◌≤◌, Bool, true, false, cond, ◌&&◌, List, [], ◌∷◌, ◌++◌, refl, sym, ap, ◌∙◌, subst, arith, negsuc, eqb, leb, Option, Some, None, get_or}
use Rattle.std.specs.List.{All, Contains, filter, filter_map, cons_option}
use Rattle.std.specs.Prelude.{min}
use Rattle.std.proofs.lemmas.Bool.{eqb-true, ne_eqb}
use Rattle.std.proofs.lemmas.List.{append-nil}
use Rattle.std.proofs.lemmas.List.Elements.{All-append, All-cons, All-contains_itself, All-filter, All-head, All-nil, All-tail, All-weaker, filter-append, filter_passes}
use Rattle.card_bounds.proofs.HeldDays.{all-front, numbers-front}
use Rattle.card_bounds.specs.Reached.{IsOfItsPost, PaymentsReach, Rise, sizes}
use Rattle.card_bounds.proofs.Owned.{Clean, paid_by}
use Rattle.card_bounds.proofs.Owned.{sizes as owned_sizes}
use Rattle.card_bounds.proofs.Steps.{Limits, Owned, effect-step, owned-after}
use Rattle.card_bounds.proofs.Totals.{Numbers, clean-still, due-step, numbers-filter, only-one, owned-same, slots-number}
use Rattle.card_bounds.proofs.Whole.{Folded, fold-folded, folded-few, limits-on}
use Rattle.card_events.specs.Civil.{day_of_month}
use Rattle.card_events.specs.declared.anchor.Anchor.{Anchor}
use Rattle.card_events.specs.History.{CorrectedPost, anchor_of, corrected, folded, is_folded}
use Rattle.card_events.specs.SharedRows.{SharedRows}
use Rattle.card_events.specs.declared.kept.Kept.{Kept}
use Rattle.card_events.specs.declared.post.Post.{Post}
use Rattle.card_events.specs.declared.post.Post.TheVariants as post
use Rattle.card_model.proofs.EntryFacts.{Notes, all-debit, all-holds, all-parts, all-releases}
use Rattle.card_model.proofs.PartsSum.{Rises, holdings-ascend, segments-ascend}
use Rattle.card_model.proofs.Sound.{payment-good}
use Rattle.card_model.proofs.WholeParts.{paid_at-ascends}
use Rattle.card_model.specs.Accepted.{HasFewCents, HasFewFees}
use Rattle.card_model.specs.Allocation.{Ascends, Paying, excess_rule, minimum_rule, part_of, parts, pay, takes, untouched}
use Rattle.card_model.specs.Books.{Account, Book, account_of, all_segments, present_cycle}
use Rattle.card_model.specs.Caps.{row_for}
use Rattle.card_model.specs.Closing.{Posting, close, closing_interest, post_interest, post_one, posted_for}
use Rattle.card_model.specs.Cycles.{Cycle, IssuedRow, Seen, last_cycle, post_at, posts_on, seen_on}
use Rattle.card_model.specs.DueDates.{after_due_date, on_due}
use Rattle.card_model.specs.Effects.{after_posts, credit_parts, disputed_cents, disputed_charge, disputed_segment, effect, holdings, is_part_of, meant_for, moved_by, parts_entries, payment_at, payment_parts, put_back, returned, returned_fee, size}
use Rattle.card_model.specs.Entries.{credit_balance, debit, is_kind}
use Rattle.card_model.specs.Fees.{fee_cents, late_fee, with_fee}
use Rattle.card_model.specs.Folds.{book_after, day_after}
use Rattle.card_model.specs.Payments.{is_credit, minimum_left}
use Rattle.card_model.specs.Segments.{SegmentTerms, newest, segment_at}
use Rattle.card_model.specs.declared.entry.Entry.{Entry}
use Rattle.card_model.specs.declared.entry.EntryKind.{EntryKind}
use Rattle.card_model.specs.declared.entry.EntryKind.TheVariants as kind
use Rattle.card_model.specs.declared.fee.Fee.{Fee}
use Rattle.card_model.specs.declared.holding.Holding.{Holding}
use Rattle.card_model.specs.declared.segment.Sort.TheVariants as sort

-- each entry is of its post, and those of each payment ascend
record Reaches (posts : List CorrectedPost) (es : List Entry) : Type 0 where
  each : All (IsOfItsPost posts) es
  rise : (n : ℕ) → Rise 0 (filter (is_part_of n) es)

-- ---- entries more
pub no-part : (t : Bool) → (t && false) ≡ false
no-part true = refl
no-part false = refl

pub none-of : (n : ℕ) (xs : List Entry) → All (λ (e : Entry). is_part_of n e ≡ false) xs → filter (is_part_of n) xs ≡ []
none-of n [] h = refl
none-of n (e ∷ xs) h =
    let here = All-head (λ (e : Entry). is_part_of n e ≡ false) e xs h in
    let rest = none-of n xs (All-tail (λ (e : Entry). is_part_of n e ≡ false) e xs h) in
    rw (here, rest) refl

-- entries that are none of payment n leave its parts as they are
pub kept-parts : (n : ℕ) (es xs : List Entry) → filter (is_part_of n) xs ≡ [] → filter (is_part_of n) (es ++ xs) ≡ filter (is_part_of n) es
kept-parts n es xs none = filter-append (is_part_of n) es xs ∙ (ap (λ ys. filter (is_part_of n) es ++ ys) none ∙ append-nil (filter (is_part_of n) es))

-- entries of no payment and no credit
record IsPlain (e : Entry) : Type 0 where
  no_payment : is_kind kind.Payment e.kind ≡ false
  no_credit : is_kind kind.Credit e.kind ≡ false

false-true : {X : Type 0} (t : Bool) → t ≡ false → t ≡ true → X
false-true t e f = cc

plain-each : (posts : List CorrectedPost) (e : Entry) → IsPlain e → IsOfItsPost posts e
plain-each posts e h = record {
  not_held = λ q. false-true (is_kind kind.Payment e.kind) h.no_payment q;
  below = λ q. false-true (is_kind kind.Payment e.kind) h.no_payment q;
  credit = λ q. false-true (is_kind kind.Credit e.kind) h.no_credit q;
}

pub no-parts : (n : ℕ) (e : Entry) → is_kind kind.Payment e.kind ≡ false → is_part_of n e ≡ false
no-parts n e h = rw h (no-part (eqb e.post n))

plain-added : (posts : List CorrectedPost) (es xs : List Entry) → Reaches posts es → All IsPlain xs → Reaches posts (es ++ xs)
plain-added posts es xs h all = record {
  each = All-append (IsOfItsPost posts) es xs h.each (All-weaker IsPlain (IsOfItsPost posts) (plain-each posts) xs all);
  rise = λ n. subst (Rise 0) (sym (kept-parts n es xs (none-of n xs (All-weaker IsPlain (λ (e : Entry). is_part_of n e ≡ false) (λ e q. no-parts n e q.no_payment) xs all)))) (h.rise n);
}

debited : (posts : List CorrectedPost) (es : List Entry) (day n s x credit : ℕ) (k : EntryKind) → Notes IsPlain day k n → Reaches posts es → Reaches posts (es ++ debit (record { day = day; kind = k; post = n }) s x credit)
debited posts es day n s x credit k p h = plain-added posts es _ h (all-debit IsPlain day n s x credit k p)

put-back : (posts : List CorrectedPost) (day n newest : ℕ) (ps es : List Entry) → Reaches posts es → Reaches posts (put_back (record { day = day; kind = kind.Return; post = n }) newest ps es)
put-back posts day n newest [] es h = h
put-back posts day n newest (x ∷ ps) es h =
    put-back posts day n newest ps _ (debited posts es day n (cond (eqb x.segment 0) newest x.segment) (size x.cents) (credit_balance es) kind.Return (λ s z. record { no_payment = refl; no_credit = refl }) h)

fee-reaches : (posts : List CorrectedPost) (a : Account) (seen : Seen) (n : ℕ) (o : Option Fee) (b : Book) → Reaches posts b.entries → Reaches posts (with_fee a seen n o b).entries
fee-reaches posts a seen n None b h = h
fee-reaches posts a seen n (Some f) b h =
    debited posts b.entries seen.day n (newest sort.Purchase seen.day (all_segments a seen)) (fee_cents f) (credit_balance b.entries) kind.Fee (λ s z. record { no_payment = refl; no_credit = refl }) h

-- ---- the entries of a payment
-- parts ascend, each of a segment once
abbrev PartsRise : ℕ → List (ℕ × ℕ) → Type 0
PartsRise low [] = Unit {0}
PartsRise low (p ∷ ps) = (low ≤ p.0) × PartsRise (p.0 + 1) ps

rise-later : (low more : ℕ) (ps : List (ℕ × ℕ)) → low ≤ more → PartsRise more ps → PartsRise low ps
rise-later low more [] l h = tt
rise-later low more (p ∷ ps) l h = (let m = h.0 in omega arith, h.1)

holdings-rise : (low : ℕ) (hs : List Holding) → Ascends low hs → PartsRise low (filter_map part_of hs)
holdings-rise low [] a = tt
holdings-rise low (h ∷ hs) a = by (eqb h.paid 0) (holdings-rise (h.id + 1) hs a.1)
  where
    by : (t : Bool) → PartsRise (h.id + 1) (filter_map part_of hs) → PartsRise low (cons_option (cond t None (Some (h.id, h.paid))) (filter_map part_of hs))
    by true r = rise-later low (h.id + 1) (filter_map part_of hs) (let m = a.0 in omega arith) r
    by false r = (a.0, r)

parts-rise : (s : Paying) → Ascends 2 s.left → PartsRise 0 (parts s)
parts-rise s a = by (eqb s.credit 0) (holdings-rise 2 s.left a)
  where
    by : (t : Bool) → PartsRise 2 (filter_map part_of s.left) → PartsRise 0 (cond t (filter_map part_of s.left) ((0, s.credit) ∷ filter_map part_of s.left))
    by true r = rise-later 0 2 (filter_map part_of s.left) (omega arith) r
    by false r = (omega arith, rise-later 1 2 (filter_map part_of s.left) (omega arith) r)

pub takes-ascends : (low : ℕ) (s : Paying) (o : Option Holding) → Ascends low s.left → Ascends low (takes 1 s o).left
takes-ascends low s None a = a
takes-ascends low s (Some h) a = paid_at-ascends h.id 1 low s.left a

pay-ascends : (rule : List Holding → Option Holding) (n low : ℕ) (s : Paying) → Ascends low s.left → Ascends low (pay rule n s).left
unfolding pay
pay-ascends rule zero low s a = a
pay-ascends rule (suc n) low s a = pay-ascends rule n low (takes 1 s (rule s.left)) (takes-ascends low s (rule s.left) a)

payment-rises : (a : Account) (seen : Seen) (s : CorrectedPost) (b : Book) → Rises 5 seen.posts → PartsRise 0 (payment_parts a seen s b)
unfolding payment_parts
payment-rises a seen s b h =
    let hs = holdings a seen b None in
    let minimum = min s.cents (minimum_left seen s (last_cycle b.cycles)) in
    let start : Ascends 2 hs = holdings-ascend a seen b None 2 (all_segments a seen) (segments-ascend a seen h) in
    let one = pay-ascends minimum_rule minimum 2 (untouched hs) start in
    parts-rise (pay excess_rule (s.cents - minimum) (pay minimum_rule minimum (untouched hs))) (pay-ascends excess_rule (s.cents - minimum) 2 (pay minimum_rule minimum (untouched hs)) one)

-- their entries too
entries-rise : (day n low : ℕ) (ps : List (ℕ × ℕ)) → PartsRise low ps → Rise low (parts_entries (record { day = day; kind = kind.Payment; post = n }) ps)
entries-rise day n low [] h = tt
entries-rise day n low ((s, zero) ∷ ps) h = entries-rise day n low ps (rise-later low (s + 1) ps (let m = h.0 in omega arith) h.1)
entries-rise day n low ((s, suc x) ∷ ps) h = (h.0, entries-rise day n (s + 1) ps h.1)

all-pass : (n : ℕ) (xs : List Entry) → All (λ (e : Entry). is_part_of n e ≡ true) xs → filter (is_part_of n) xs ≡ xs
all-pass n [] h = refl
all-pass n (e ∷ xs) h =
    let here = All-head (λ (e : Entry). is_part_of n e ≡ true) e xs h in
    let rest = all-pass n xs (All-tail (λ (e : Entry). is_part_of n e ≡ true) e xs h) in
    rw (here, rest) refl

abbrev NotHeld : ℕ × ℕ → Type 0
NotHeld p = p.0 ≡ 1 → ⊥

paid-each : (posts : List CorrectedPost) (day n : ℕ) (ps : List (ℕ × ℕ)) → All NotHeld ps → All (IsOfItsPost posts) (parts_entries (record { day = day; kind = kind.Payment; post = n }) ps)
paid-each posts day n [] h = All-nil (IsOfItsPost posts)
paid-each posts day n ((s, zero) ∷ ps) h = paid-each posts day n ps (All-tail NotHeld (s, zero) ps h)
paid-each posts day n ((s, suc x) ∷ ps) h =
    All-cons (IsOfItsPost posts) (record { day = day; segment = s; kind = kind.Payment; post = n; cents = negsuc x }) (parts_entries (record { day = day; kind = kind.Payment; post = n }) ps)
    (record { not_held = λ q e. All-head NotHeld (s, suc x) ps h e; below = λ q. omega arith; credit = λ q. absurd (cc) })
    (paid-each posts day n ps (All-tail NotHeld (s, suc x) ps h))

-- a payment of which nothing was paid has no entry
none-paid : (posts : List CorrectedPost) (n : ℕ) (es : List Entry) → All (IsOfItsPost posts) es → paid_by n es ≡ 0 → filter (is_part_of n) es ≡ []
unfolding paid_by
none-paid posts n [] h z = refl
none-paid posts n (e ∷ es) h z = by (is_part_of n e) refl z (none-paid posts n es (All-tail (IsOfItsPost posts) e es h))
  where
    paid : is_part_of n e ≡ true → is_kind kind.Payment e.kind ≡ true
    paid q = second (eqb e.post n) (is_kind kind.Payment e.kind) q
      where
        second : (t u : Bool) → (t && u) ≡ true → u ≡ true
        second true u q = q
        second false u q = cc

    by : (t : Bool) → is_part_of n e ≡ t → owned_sizes (cond t (e ∷ filter (is_part_of n) es) (filter (is_part_of n) es)) ≡ 0 → (owned_sizes (filter (is_part_of n) es) ≡ 0 → filter (is_part_of n) es ≡ [])
        → cond t (e ∷ filter (is_part_of n) es) (filter (is_part_of n) es) ≡ []
    by false q z rest = rest z
    by true q z rest = let low = (All-head (IsOfItsPost posts) e es h).below (paid q) in absurd (omega (arith, low, z))

payment-added : (posts : List CorrectedPost) (day m : ℕ) (ps : List (ℕ × ℕ)) (es : List Entry) → PartsRise 0 ps → All NotHeld ps → paid_by m es ≡ 0 → Reaches posts es → Reaches posts (es ++ parts_entries (record { day = day; kind = kind.Payment; post = m }) ps)
payment-added posts day m ps es r off clean h = record {
  each = All-append (IsOfItsPost posts) es xs h.each (paid-each posts day m ps off);
  rise = λ n. by n (eqb m n) refl;
}
  where
    xs : List Entry
    xs = parts_entries (record { day = day; kind = kind.Payment; post = m }) ps

    by : (n : ℕ) (t : Bool) → eqb m n ≡ t → Rise 0 (filter (is_part_of n) (es ++ xs))
    by n false q =
        let none = none-of n xs (all-parts (λ (e : Entry). is_part_of n e ≡ false) day m kind.Payment ps (λ s z. rw q refl)) in
        subst (Rise 0) (sym (kept-parts n es xs none)) (h.rise n)
    by n true q =
        let mine : filter (is_part_of n) xs ≡ xs = all-pass n xs (all-parts (λ (e : Entry). is_part_of n e ≡ true) day m kind.Payment ps (λ s z. rw q refl)) in
        let fresh : filter (is_part_of n) es ≡ [] = subst (λ k. filter (is_part_of k) es ≡ []) (eqb-true m n q) (none-paid posts m es h.each clean) in
        let whole : filter (is_part_of n) (es ++ xs) ≡ xs = filter-append (is_part_of n) es xs ∙ (ap (λ us. us ++ filter (is_part_of n) xs) fresh ∙ mine) in
        subst (Rise 0) (sym whole) (entries-rise day m 0 ps r)

-- ---- the entries of a merchant's credit
credit-added : (posts : List CorrectedPost) (day m : ℕ) (ps : List (ℕ × ℕ)) (es : List Entry) → All (λ (p : CorrectedPost). p.number ≡ m → is_credit p.post ≡ true) posts → Reaches posts es
    → Reaches posts (es ++ parts_entries (record { day = day; kind = kind.Credit; post = m }) ps)
credit-added posts day m ps es own h =
    let xs = parts_entries (record { day = day; kind = kind.Credit; post = m }) ps in
    record {
      each = All-append (IsOfItsPost posts) es xs h.each (all-parts (IsOfItsPost posts) day m kind.Credit ps (λ s z. record { not_held = λ q. absurd (cc); below = λ q. absurd (cc); credit = λ q. own }));
      rise = λ n. subst (Rise 0) (sym (kept-parts n es xs (none-of n xs (all-parts (λ (e : Entry). is_part_of n e ≡ false) day m kind.Credit ps (λ s z. no-part (eqb m n)))))) (h.rise n);
    }

-- ---- a post
abbrev KeepsNumber : List CorrectedPost → CorrectedPost → Type 0
KeepsNumber posts s = All (λ (p : CorrectedPost). p.number ≡ s.number → p ≡ s) posts

own-credit : (posts : List CorrectedPost) (s : CorrectedPost) → KeepsNumber posts s → is_credit s.post ≡ true → All (λ (p : CorrectedPost). p.number ≡ s.number → is_credit p.post ≡ true) posts
own-credit posts s one e = All-weaker (λ (p : CorrectedPost). p.number ≡ s.number → p ≡ s) (λ (p : CorrectedPost). p.number ≡ s.number → is_credit p.post ≡ true) (λ p h q. subst (λ (r : CorrectedPost). is_credit r.post ≡ true) (sym (h q)) e) posts one

effect-reaches : (posts : List CorrectedPost) (issued : Option IssuedRow) (a : Account) (seen : Seen) (s : CorrectedPost) (p : Post) (b : Book) → Rises 5 seen.posts → KeepsNumber posts s → s.post ≡ p → paid_by s.number b.entries ≡ 0 → Reaches posts b.entries
    → Reaches posts (effect issued a seen s p b).entries
unfolding effect
effect-reaches posts issued a seen s (post.Charge d p n) b r one e clean h =
    debited posts b.entries seen.day s.number (segment_at p seen.day (all_segments a seen)) s.cents (credit_balance b.entries) kind.Charge (λ s z. record { no_payment = refl; no_credit = refl }) h
effect-reaches posts issued a seen s (post.Payment d m y n) b r one e clean h =
    payment-added posts seen.day s.number (payment_parts a seen s b) b.entries (payment-rises a seen s b r) (payment-good a seen s b r).off clean h
effect-reaches posts issued a seen s (post.Credit d p n) b r one e clean h =
    credit-added posts seen.day s.number (credit_parts a seen s p b) b.entries (own-credit posts s one (rw e refl)) h
effect-reaches posts issued a seen s (post.Return d target) b r one e clean h =
    fee-reaches posts a seen s.number (returned_fee issued seen b (meant_for b.cycles (payment_at target seen.posts))) (returned a seen s.number target b)
    (put-back posts seen.day s.number (newest sort.Purchase seen.day (all_segments a seen)) (filter (is_part_of target) b.entries) b.entries h)
effect-reaches posts issued a seen s (post.Dispute d target claim) b r one e clean h =
    plain-added posts b.entries _ h (all-holds IsPlain seen.day s.number (disputed_segment a seen target) (disputed_cents a seen target claim b) (λ s z. record { no_payment = refl; no_credit = refl }))
effect-reaches posts issued a seen s (post.Resolve d target n) b r one e clean h =
    plain-added posts b.entries _ h
    (all-releases IsPlain seen.day s.number (disputed_segment a seen (disputed_charge (post_at target seen.posts))) (moved_by target b.entries) (credit_balance b.entries) (λ s z. record { no_payment = refl; no_credit = refl }))
effect-reaches posts issued a seen s (post.Refund n) b r one e clean h =
    debited posts b.entries seen.day s.number (newest sort.Purchase seen.day (all_segments a seen)) s.cents (credit_balance b.entries) kind.Refund (λ s z. record { no_payment = refl; no_credit = refl }) h
effect-reaches posts issued a seen s post.Penalty b r one e clean h = h
effect-reaches posts issued a seen s (post.Open d t) b r one e clean h = h
effect-reaches posts issued a seen s (post.OpenVariable d t) b r one e clean h = h
effect-reaches posts issued a seen s (post.Plan d k g f x) b r one e clean h = h
effect-reaches posts issued a seen s (post.Notice d y g f) b r one e clean h = h
effect-reaches posts issued a seen s (post.Lower d y g) b r one e clean h = h
effect-reaches posts issued a seen s (post.Review d f) b r one e clean h = h
effect-reaches posts issued a seen s (post.Ack d t) b r one e clean h = h
effect-reaches posts issued a seen s (post.AskRefund d) b r one e clean h = h
effect-reaches posts issued a seen s (post.Amend t d n) b r one e clean h = h
effect-reaches posts issued a seen s (post.Bill n) b r one e clean h = h

-- ---- the posts of a day
-- what is known of them before they are folded
record AreAhead (posts ss : List CorrectedPost) (es : List Entry) : Type 0 where
  low : ℕ
  cents : All (λ (s : CorrectedPost). s.cents ≤ 1000000000) ss
  numbers : Numbers low ss
  one : All (KeepsNumber posts) ss
  clean : All (λ (s : CorrectedPost). Clean s.number es) ss

-- after them no payment has more than 10^9 cents
record AreDone (posts : List CorrectedPost) (es : List Entry) : Type 0 where
  reaches : Reaches posts es
  owned : Owned es

above : (low : ℕ) (ss : List CorrectedPost) → Numbers low ss → All (λ (t : CorrectedPost). low ≤ t.number) ss
above low [] h = All-nil (λ (t : CorrectedPost). low ≤ t.number)
above low (s ∷ ss) h = All-cons (λ (t : CorrectedPost). low ≤ t.number) s ss h.0 (All-weaker (λ (t : CorrectedPost). suc s.number ≤ t.number) (λ (t : CorrectedPost). low ≤ t.number) (λ t m. let l = h.0 in omega arith) ss (above (suc s.number) ss h.1))

posts-reach : (posts : List CorrectedPost) (issued : Option IssuedRow) (a : Account) (seen : Seen) (ss : List CorrectedPost) (b : Book) → Limits seen → AreAhead posts ss b.entries → AreDone posts b.entries
    → AreDone posts (after_posts issued a seen ss b).entries
unfolding after_posts
posts-reach posts issued a seen [] b l h d = d
posts-reach posts issued a seen (s ∷ ss) b l h d =
    let next = effect issued a seen s s.post b in
    let step = effect-step issued a seen s s.post b l (All-head (λ (s : CorrectedPost). s.cents ≤ 1000000000) s ss h.cents) d.owned in
    let fresh = All-head (λ (t : CorrectedPost). Clean t.number b.entries) s ss h.clean in
    let later = All-tail (λ (t : CorrectedPost). Clean t.number b.entries) s ss h.clean in
    let high = above (suc s.number) ss h.numbers.1 in
    let still : All (λ (t : CorrectedPost). Clean t.number next.entries) ss = λ k x w.
    clean-still (get_or ss k x).number b.entries next.entries (step.other (get_or ss k x).number (ne_eqb s.number (get_or ss k x).number (λ e. omega (arith, high k x w)))) (later k x w) in
    posts-reach posts issued a seen ss next l
    (record { low = suc s.number; cents = All-tail (λ (s : CorrectedPost). s.cents ≤ 1000000000) s ss h.cents; numbers = h.numbers.1; one = All-tail (KeepsNumber posts) s ss h.one; clean = still })
    (record {
      reaches = effect-reaches posts issued a seen s s.post b l.ids (All-head (KeepsNumber posts) s ss h.one) refl fresh.paid d.reaches;
      owned = owned-after s.number 2000100000 b.entries next.entries step fresh d.owned;
    })

due-reaches : (posts : List CorrectedPost) (issued : Option IssuedRow) (a : Account) (seen : Seen) (b : Book) (c : Option Cycle) → Reaches posts b.entries → Reaches posts (on_due issued a seen b c).entries
unfolding on_due
due-reaches posts issued a seen b None h = h
due-reaches posts issued a seen b (Some c) h = by (eqb seen.day (c.due + 1)) (fee-reaches posts a seen 0 (late_fee issued seen b c) b h)
  where
    by : (t : Bool) → Reaches posts (after_due_date issued a seen b c).entries → Reaches posts (cond t (after_due_date issued a seen b c) b).entries
    by true k = k
    by false k = h

interest-reaches : (posts : List CorrectedPost) (issued : Option IssuedRow) (seen : Seen) (amount : Book → SegmentTerms → ℕ) (gs : List SegmentTerms) (p : Posting) → Reaches posts p.book.entries → Reaches posts (post_interest issued seen amount gs p).book.entries
unfolding post_interest
interest-reaches posts issued seen amount [] p h = h
interest-reaches posts issued seen amount (g ∷ gs) p h =
    let x = posted_for issued amount g p in
    interest-reaches posts issued seen amount gs (post_one seen g x p)
    (debited posts p.book.entries seen.day 0 g.id x (credit_balance p.book.entries) kind.Interest (λ s z. record { no_payment = refl; no_credit = refl }) h)

close-reaches : (posts : List CorrectedPost) (issued : Option IssuedRow) (a : Account) (seen : Seen) (b : Book) → Reaches posts b.entries → Reaches posts (close issued a seen b).entries
unfolding close closing_interest
close-reaches posts issued a seen b h = interest-reaches posts issued seen _ _ _ (interest-reaches posts issued seen _ _ (record { amounts = []; book = b }) h)

ahead-front : (posts xs ys : List CorrectedPost) (es : List Entry) → AreAhead posts (xs ++ ys) es → AreAhead posts xs es
ahead-front posts xs ys es h = record {
  low = h.low;
  cents = all-front (λ (s : CorrectedPost). s.cents ≤ 1000000000) xs ys h.cents;
  numbers = numbers-front h.low xs ys h.numbers;
  one = all-front (KeepsNumber posts) xs ys h.one;
  clean = all-front (λ (s : CorrectedPost). Clean s.number es) xs ys h.clean;
}

today-ahead : (a : Anchor) (shared : SharedRows) (history : List Kept) (issued : List IssuedRow) (opened n : ℕ) (es : List Entry) → All HasFewCents history → Folded opened n (folded a shared.holidays history) es
    → AreAhead (corrected a shared.holidays history) (posts_on (seen_on a shared history issued (opened + n))) es
today-ahead a shared history issued opened n es few h =
    let whole = corrected a shared.holidays history in
    let ss = folded a shared.holidays history in
    let d = opened + n in
    let seen = seen_on a shared history issued d in
    let all : Numbers 1 whole = slots-number a shared.holidays history 1 5 history in
    let numbers : Numbers 1 ss = numbers-filter (λ s. is_folded s.post) 1 whole all in
    let among : All (Contains ss) (posts_on seen) = All-filter (λ (s : CorrectedPost). eqb s.day d) (Contains ss) seen.posts (All-filter (λ (s : CorrectedPost). leb s.day d) (Contains ss) ss (All-contains_itself ss)) in
    let within : All (Contains whole) (posts_on seen) =
    All-filter (λ (s : CorrectedPost). eqb s.day d) (Contains whole) seen.posts (All-filter (λ (s : CorrectedPost). leb s.day d) (Contains whole) ss (All-filter (λ (s : CorrectedPost). is_folded s.post) (Contains whole) whole (All-contains_itself whole))) in
    let today : All (λ (s : CorrectedPost). eqb s.day d ≡ true) (posts_on seen) = filter_passes (λ (s : CorrectedPost). eqb s.day d) seen.posts in
    record {
      low = 1;
      cents = All-filter (λ (s : CorrectedPost). eqb s.day d) (λ (s : CorrectedPost). s.cents ≤ 1000000000) seen.posts (All-filter (λ (s : CorrectedPost). leb s.day d) (λ (s : CorrectedPost). s.cents ≤ 1000000000) ss (folded-few a shared.holidays history few));
      numbers = numbers-filter (λ s. eqb s.day d) 1 seen.posts (numbers-filter (λ s. leb s.day d) 1 ss numbers);
      one = λ k e l. only-one 1 whole (get_or (posts_on seen) k e) all (within k e l);
      clean = λ k e l.
          let t = get_or (posts_on seen) k e in
          let day : t.day ≡ d = eqb-true t.day d (today k e l) in
          let alone = only-one 1 ss t numbers (among k e l) in
          h.clean t.number (λ i x w q. let same = ap (λ (u : CorrectedPost). u.day) (alone i x w q) in omega arith);
    }

-- after the due date and a front of the posts
amid-reaches : (row : Option IssuedRow) (acc : Account) (a : Anchor) (shared : SharedRows) (history : List Kept) (issued : List IssuedRow) (n : ℕ) (b : Book) (done rest : List CorrectedPost) → All HasFewCents history → All HasFewFees shared.fees
    → Folded acc.anchor.opened n (folded a shared.holidays history) b.entries → Reaches (corrected a shared.holidays history) b.entries → posts_on (seen_on a shared history issued (acc.anchor.opened + n)) ≡ done ++ rest
    → AreDone (corrected a shared.holidays history) (after_posts row acc (seen_on a shared history issued (acc.anchor.opened + n)) done (on_due row acc (seen_on a shared history issued (acc.anchor.opened + n)) b (last_cycle b.cycles))).entries
amid-reaches row acc a shared history issued n b done rest few fees h c split =
    let whole = corrected a shared.holidays history in
    let seen = seen_on a shared history issued (acc.anchor.opened + n) in
    let limits = limits-on a shared history issued (acc.anchor.opened + n) (folded-few a shared.holidays history few) fees in
    let due = on_due row acc seen b (last_cycle b.cycles) in
    let fined = due-step row acc seen b (last_cycle b.cycles) limits in
    let front = ahead-front whole done rest b.entries (subst (λ xs. AreAhead whole xs b.entries) split (today-ahead a shared history issued acc.anchor.opened n b.entries few h)) in
    let still : All (λ (t : CorrectedPost). Clean t.number due.entries) done = λ k d w. clean-still (get_or done k d).number b.entries due.entries (fined.same (get_or done k d).number) (front.clean k d w) in
    posts-reach whole row acc seen done due limits (record { low = front.low; cents = front.cents; numbers = front.numbers; one = front.one; clean = still })
    (record { reaches = due-reaches whole row acc seen b (last_cycle b.cycles) c; owned = owned-same b.entries due.entries fined.same h.owned })

whole-list : (xs : List CorrectedPost) → xs ≡ xs ++ []
whole-list xs = sym (append-nil xs)

day-reaches : (row : Option IssuedRow) (acc : Account) (a : Anchor) (shared : SharedRows) (history : List Kept) (issued : List IssuedRow) (n : ℕ) (b : Book) → All HasFewCents history → All HasFewFees shared.fees
    → Folded acc.anchor.opened n (folded a shared.holidays history) b.entries → Reaches (corrected a shared.holidays history) b.entries
    → Reaches (corrected a shared.holidays history) (day_after row acc (seen_on a shared history issued (acc.anchor.opened + n)) b).entries
unfolding day_after
day-reaches row acc a shared history issued n b few fees h c =
    let whole = corrected a shared.holidays history in
    let seen = seen_on a shared history issued (acc.anchor.opened + n) in
    let posted = after_posts row acc seen (posts_on seen) (on_due row acc seen b (last_cycle b.cycles)) in
    let all = amid-reaches row acc a shared history issued n b (posts_on seen) [] few fees h c (whole-list (posts_on seen)) in
    by (eqb (day_of_month seen.day) acc.anchor.close_day) posted all.reaches (close-reaches whole row acc seen posted all.reaches)
  where
    by : (t : Bool) (posted : Book) → Reaches (corrected a shared.holidays history) posted.entries
        → Reaches (corrected a shared.holidays history) (close row acc (seen_on a shared history issued (acc.anchor.opened + n)) posted).entries
        → Reaches (corrected a shared.holidays history) (cond t (close row acc (seen_on a shared history issued (acc.anchor.opened + n)) posted) posted).entries
    by true posted g k = k
    by false posted g k = g

fold-reaches : (rows : List IssuedRow) (acc : Account) (a : Anchor) (shared : SharedRows) (history : List Kept) (issued : List IssuedRow) (n : ℕ) → All HasFewCents history → All HasFewFees shared.fees
    → Reaches (corrected a shared.holidays history) (book_after rows acc (seen_on a shared history issued) n).entries
unfolding book_after
fold-reaches rows acc a shared history issued zero few fees = record { each = All-nil (IsOfItsPost (corrected a shared.holidays history)); rise = λ n. tt }
fold-reaches rows acc a shared history issued (suc n) few fees =
    let b = book_after rows acc (seen_on a shared history issued) n in
    day-reaches (row_for (present_cycle b) rows) acc a shared history issued n b few fees
    (fold-folded rows acc a shared history issued n (folded-few a shared.holidays history few) fees)
    (fold-reaches rows acc a shared history issued n few fees)

-- ---- the law
few-sizes : (xs : List Entry) → sizes xs ≡ owned_sizes xs
few-sizes [] = refl
few-sizes (x ∷ xs) = ap (λ n. size x.cents + n) (few-sizes xs)

few-paid : (n : ℕ) (es : List Entry) → paid_by n es ≤ 1000000000 → sizes (filter (is_part_of n) es) ≤ 1000000000
unfolding paid_by
few-paid n es h = let same = few-sizes (filter (is_part_of n) es) in omega (arith, same, h)

pub payments_reach : PaymentsReach
payments_reach history issued shared n few fees done rest split =
    let a = anchor_of history in
    let b = book_after issued (account_of history) (seen_on a shared history issued) n in
    let at = amid-reaches (row_for (present_cycle b) issued) (account_of history) a shared history issued n b done rest few fees
    (fold-folded issued (account_of history) a shared history issued n (folded-few a shared.holidays history few) fees)
    (fold-reaches issued (account_of history) a shared history issued n few fees) split in
    record { each = at.reaches.each; rise = at.reaches.rise; few = λ m. few-paid m _ (at.owned.paid m) }
