-- The books after the fronts of a day's posts: their balances, and the entries of payments and merchants' credits.
use Rattle.std.proofs.Common.{◌≡◌, ℕ, zero, suc, ◌+◌, ◌-◌, ◌<◌, ◌≤◌, Bool, true, false, cond, ◌&&◌, eqb, List, [], ◌∷◌, ◌++◌, length, take, drop, get_or, refl, sym, ap, ◌∙◌, subst, arith, Option, Some, None, ℤ}
use Rattle.std.specs.Prelude.{slice_get}
use Rattle.std.specs.List.{All, Contains, filter}
use Rattle.std.proofs.lemmas.Bool.{eqb-true}
use Rattle.std.proofs.lemmas.List.{take-append-drop}
use Rattle.std.proofs.lemmas.List.Elements.{All-cons, All-contains, All-filter, All-get_or, All-head, All-nil, All-tail, All-weaker, filter-append, filter_passes}
use Rattle.card_segments.specs.Parts.{AreOnSegments, Ascend, IsOnSegment, parts_in, parts_sum}
use Rattle.card_bounds.proofs.OnSegments.{entries_have_segments}
use Rattle.card_bounds.proofs.Reached.{payments_reach}
use Rattle.card_bounds.specs.Bounds.{AreSmall}
use Rattle.card_bounds.specs.Places.{LieOn, segments_by}
use Rattle.card_bounds.specs.Reached.{AreReached, IsOfItsPost, Rise, sizes}
use Rattle.card_events.specs.Range.{last_request_day}
use Rattle.card_events.specs.declared.anchor.Anchor.{Anchor}
use Rattle.card_effects.proofs.DayLaws.{books_of_a_day}
use Rattle.card_effects.specs.Returned.{AreOfThose, AreReturnable, parts_of}
use Rattle.card_effects.specs.Standing.{is_added}
use Rattle.card_events.specs.History.{CorrectedPost, anchor_of, at_number, corrected, corrected_from, corrected_post, is_folded, next_segment}
use Rattle.card_events.specs.declared.kept.Kept.{Kept}
use Rattle.card_events.specs.declared.post.Post.{Post}
use Rattle.card_events.specs.declared.post.Post.TheVariants as post
use Rattle.card_fees.specs.Counting.{is_payment_at}
use Rattle.card_closing.specs.Growth.{IsOfNoCredit}
use Rattle.card_model.specs.Books.{Account, Book}
use Rattle.card_model.specs.Cycles.{IssuedRow, Seen, last_cycle, posts_on}
use Rattle.card_model.specs.DueDates.{on_due}
use Rattle.card_model.specs.Effects.{after_posts, effect, is_part_of, size}
use Rattle.card_model.specs.Entries.{AreBalances, is_kind}
use Rattle.card_model.specs.Payments.{is_credit, is_payment, returns}
use Rattle.card_model.specs.Segments.{SegmentTerms}
use Rattle.card_model.specs.declared.entry.Entry.{Entry}
use Rattle.card_model.specs.declared.entry.EntryKind.TheVariants as kind
use Rattle.card_rates.proofs.ByNumber.{number-above}
use Rattle.card_rates.proofs.DayLaws.{segments_of_a_day}
use Rattle.card_rates.specs.RateBooks.{rates_of}
use Rattle.card_rates.proofs.Turns.{of_a_day}
use Rattle.card_daily.proofs.Books.{amid-small, day-is}
use Rattle.card_daily.proofs.Returning.{Names, all-name, named}
use Rattle.card_daily.proofs.Standing.{one-each}
use Rattle.card_daily.specs.Given.{Given, IsSound, account_in, opened_in, row_in, seen_in}
use Rattle.card_daily.specs.Stands.{amid, before, only_folded, posts_of}

-- ---- the book after a front of the day's posts
pub without-idle : (issued : Option IssuedRow) (a : Account) (seen : Seen) (ps : List CorrectedPost) (b : Book) → after_posts issued a seen (only_folded ps) b ≡ after_posts issued a seen ps b
unfolding after_posts
without-idle issued a seen [] b = refl
without-idle issued a seen (p ∷ ps) b = by (is_folded p.post) refl (without-idle issued a seen ps)
  where
    by : (t : Bool) → is_folded p.post ≡ t → ((c : Book) → after_posts issued a seen (only_folded ps) c ≡ after_posts issued a seen ps c) → after_posts issued a seen (cond t (p ∷ only_folded ps) (only_folded ps)) b ≡ after_posts issued a seen ps (effect issued a seen p p.post b)
    by true e ih = ih (effect issued a seen p p.post b)
    by false e ih = ih b ∙ ap (after_posts issued a seen ps) (sym (of_a_day.idle issued a seen p b e))

-- the book that the due date left
abbrev pub due_left : Given → ℕ → Book
due_left g day = on_due (row_in g (day - opened_in g)) (account_in g) (seen_in g (opened_in g + (day - opened_in g))) (before g day) (last_cycle (before g day).cycles)

-- every front of the day's posts leaves small balances
pub front-small : (g : Given) (day i : ℕ) → IsSound g → opened_in g ≤ day → day ≤ last_request_day → AreSmall (amid g day (take i (posts_of g day))).entries
front-small g day i s o l =
    let ps = posts_of g day in
    let parts : posts_on (seen_in g day) ≡ only_folded (take i ps) ++ only_folded (drop i ps) =
    of_a_day.listed g.history g.issued g.shared day ∙ (ap only_folded (sym (take-append-drop i ps)) ∙ filter-append (λ (p : CorrectedPost). is_folded p.post) (take i ps) (drop i ps)) in
    let same = without-idle (row_in g (day - opened_in g)) (account_in g) (seen_in g (opened_in g + (day - opened_in g))) (take i ps) (due_left g day) in
    subst (λ (b : Book). AreSmall b.entries) same (amid-small g day (only_folded (take i ps)) (only_folded (drop i ps)) s o l parts)

-- the fronts that are folded, of the day's posts
parts-of : (g : Given) (day i : ℕ) → posts_on (seen_in g day) ≡ only_folded (take i (posts_of g day)) ++ only_folded (drop i (posts_of g day))
parts-of g day i =
    let ps = posts_of g day in
    of_a_day.listed g.history g.issued g.shared day ∙ (ap only_folded (sym (take-append-drop i ps)) ∙ filter-append (λ (p : CorrectedPost). is_folded p.post) (take i ps) (drop i ps))

abbrev pub all_posts : Given → List CorrectedPost
all_posts g = corrected (anchor_of g.history) g.shared.holidays g.history

pub front-reached : (g : Given) (day i : ℕ) → IsSound g → opened_in g ≤ day → AreReached (all_posts g) (amid g day (take i (posts_of g day))).entries
front-reached g day i s o =
    let ps = posts_of g day in
    let n = day - opened_in g in
    let split = ap (λ d. posts_on (seen_in g d)) (day-is (opened_in g) day o) ∙ parts-of g day i in
    let same = without-idle (row_in g n) (account_in g) (seen_in g (opened_in g + n)) (take i ps) (due_left g day) in
    subst (λ (b : Book). AreReached (all_posts g) b.entries) same (payments_reach g.history g.issued g.shared n s.accepted.cents s.fees (only_folded (take i ps)) (only_folded (drop i ps)) split)

-- ---- the parts of a payment can be put back
ascends : (low : ℕ) (es : List Entry) → Rise low es → Ascend low (parts_in es)
ascends low [] h = tt
ascends low (e ∷ es) h = (h.0, ascends (e.segment + 1) es h.1)

same-sum : (es : List Entry) → parts_sum (parts_in es) ≡ sizes es
same-sum [] = refl
same-sum (e ∷ es) = ap (λ n. size e.cents + n) (same-sum es)

abbrev LiesOn : ℕ → Entry → Type 0
LiesOn m e = (e.segment ≡ 1 → ⊥) × (e.segment < m)

on-parts : (m : ℕ) (es : List Entry) → All (LiesOn m) es → AreOnSegments m (parts_in es)
on-parts m [] h = All-nil (IsOnSegment m)
on-parts m (e ∷ es) h = All-cons (IsOnSegment m) (e.segment, size e.cents) (parts_in es) (All-head (LiesOn m) e es h) (on-parts m es (All-tail (LiesOn m) e es h))

second : (t u : Bool) → (t && u) ≡ true → u ≡ true
second true u q = q
second false u q = cc

pub returnable : (g : Given) (day i n : ℕ) (bs : List ℤ) → IsSound g → opened_in g ≤ day → AreBalances (amid g day (take i (posts_of g day))).entries bs
    → AreReturnable (length bs) (parts_of n (amid g day (take i (posts_of g day))).entries)
returnable g day i n bs s o sums =
    let es = (amid g day (take i (posts_of g day))).entries in
    let paid = filter (is_part_of n) es in
    let r = front-reached g day i s o in
    let each = All-filter (is_part_of n) (IsOfItsPost (all_posts g)) es r.each in
    let known = All-filter (is_part_of n) (λ (e : Entry). e.segment < length bs) es sums.known in
    let passes = filter_passes (is_part_of n) es in
    record {
      ascending = ascends 0 paid (r.rise n);
      on_segments = on-parts (length bs) paid
          (λ k d l. let e = get_or paid k d in ((each k d l).not_held (second (eqb e.post n) (is_kind kind.Payment e.kind) (passes k d l)), known k d l));
      limit = let few = r.few n in let same = same-sum paid in omega (arith, few, same);
    }

-- ---- the payment that a Return names has no credit's number
record IsThere (posts : List CorrectedPost) (n : ℕ) (q : Post) : Type 0 where
  found : CorrectedPost
  among : Contains posts found
  number : found.number ≡ n
  same : found.post ≡ q

there-from : (a : Anchor) (holidays : List ℕ) (history : List Kept) (n segment i : ℕ) (ks : List Kept) (k : Kept) → slice_get ks i ≡ Some k → IsThere (corrected_from a holidays history n segment ks) (n + i) k.post
unfolding corrected_from corrected_post
there-from a holidays history n segment i [] k e = absurd (no i e)
  where
    no : (i : ℕ) → slice_get [] i ≡ Some k → ⊥
    no zero e = cc
    no (suc i) e = cc
there-from a holidays history n segment zero (x ∷ ks) k e =
    let same : x ≡ k = cc in
    record { found = corrected_post a holidays history n segment x; among = (0, omega arith, refl); number = omega arith; same = ap (λ (y : Kept). y.post) same }
there-from a holidays history n segment (suc i) (x ∷ ks) k e =
    let rest = there-from a holidays history (suc n) (next_segment segment x.post) i ks k e in
    let at = rest.among in
    record { found = rest.found; among = (suc at.0, (let l = at.1 in omega (arith, l)), at.2); number = rest.number ∙ omega arith; same = rest.same }

record IsPaid (posts : List CorrectedPost) (n : ℕ) : Type 0 where
  found : CorrectedPost
  among : Contains posts found
  number : found.number ≡ n
  pays : is_payment found.post ≡ true

paid-there : (g : Given) (n : ℕ) → is_payment_at (at_number n g.history) ≡ true → IsPaid (all_posts g) n
paid-there g zero e = cc
paid-there g (suc m) e = by (slice_get g.history m) refl e
  where
    by : (o : Option Kept) → slice_get g.history m ≡ o → is_payment_at o ≡ true → IsPaid (all_posts g) (suc m)
    by None q e = cc
    by (Some k) q e =
        let at = there-from (anchor_of g.history) g.shared.holidays g.history 1 5 m g.history k q in
        record { found = at.found; among = at.among; number = at.number ∙ omega arith; pays = ap is_payment at.same ∙ e }

not-both : (p : Post) → is_payment p ≡ true → is_credit p ≡ true → ⊥
not-both (post.Payment d m b c) e f = cc
not-both (post.Credit d p c) e f = cc
not-both (post.Return d t) e f = cc
not-both (post.Charge d p c) e f = cc
not-both (post.Plan d k r x f') e f = cc
not-both (post.Notice d c r x) e f = cc
not-both (post.Lower d c r) e f = cc
not-both post.Penalty e f = cc
not-both (post.Dispute d t c) e f = cc
not-both (post.Resolve d t c) e f = cc
not-both (post.Refund c) e f = cc
not-both (post.Open d t) e f = cc
not-both (post.OpenVariable d t) e f = cc
not-both (post.Review d f') e f = cc
not-both (post.Ack d t) e f = cc
not-both (post.AskRefund d) e f = cc
not-both (post.Amend t d c) e f = cc
not-both (post.Bill c) e f = cc

not-true : (t : Bool) → (t ≡ true → ⊥) → t ≡ false
not-true true h = absurd (h refl)
not-true false h = refl

pub no-credit : (g : Given) (day i n : ℕ) (d : CorrectedPost) → IsSound g → opened_in g ≤ day → i < length (posts_of g day) → returns n (get_or (posts_of g day) i d).post ≡ true
    → IsOfNoCredit n (amid g day (take i (posts_of g day))).entries
no-credit g day i n d s o l gives =
    let q = get_or (posts_of g day) i d in
    let names = All-get_or (Names g.history) (posts_of g day) i d l (All-filter (λ (p : CorrectedPost). eqb p.day day) (Names g.history) (all_posts g) (all-name g s)) in
    let paid = paid-there g n (named g.history q.number n q.post names gives).1 in
    All-weaker (IsOfItsPost (all_posts g)) (λ (e : Entry). is_kind kind.Credit e.kind ≡ true → eqb e.post n ≡ false)
    (λ e own credit.
    not-true (eqb e.post n)
    (λ t.
    let all = own.credit credit in
    let here = All-contains (λ (p : CorrectedPost). p.number ≡ e.post → is_credit p.post ≡ true) (all_posts g) paid.found all paid.among in
    not-both paid.found.post paid.pays (here (paid.number ∙ sym (eqb-true e.post n t)))))
    (amid g day (take i (posts_of g day))).entries (front-reached g day i s o).each

-- ---- no entry is of a segment that is still to come
pub are-those : (g : Given) (day : ℕ) (b : Book) → opened_in g ≤ day → LieOn (segments_by g.history g.issued g.shared day) b.entries → AreOfThose day (rates_of g.shared.holidays g.history b.penalties) b.entries
are-those g day b o lies t there e =
    let all = (rates_of g.shared.holidays g.history []).segments in
    let numbers = segments_of_a_day.numbers g.shared.holidays g.history in
    let above = number-above 2 all t numbers there in
    let those = subst (λ (gs : List SegmentTerms). LieOn gs b.entries) (books_of_a_day.those g.history g.issued g.shared day o) lies in
    entries_have_segments.unseen all (is_added day) t b.entries those above e (λ h in' same. one-each g h t in' there same)
