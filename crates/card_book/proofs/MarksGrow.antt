-- The marks of all closings, with one closing more.
use Rattle.std.proofs.Common.{◌≡◌, ℕ, zero, suc, ◌+◌, ◌-◌, ◌<◌, ◌≤◌, ◌⊎◌, inl, inr, Bool, true, false, nat_le, List, [], ◌∷◌, ◌++◌, append-nil, take, length, length-append, refl, sym, ap, ◌∙◌, subst, arith, Option, Some, None}
use Rattle.std.specs.Prelude.{◌==◌, ◌&&◌, slice_get}
use Rattle.std.specs.List.{All, find}
use Rattle.std.specs.Option.{option_map_or}
use Rattle.std.proofs.lemmas.Bool.{and_left, cases_lt, ne_eqb}
use Rattle.std.proofs.lemmas.Bool.Decides.{nat_tests}
use Rattle.std.proofs.lemmas.List.{take-append-le, take_all}
use Rattle.std.proofs.lemmas.Option.{same_Some}
use Rattle.std.proofs.lemmas.List.Elements.{All-append, All-head, All-tail, All-weaker, filter-append}
use Rattle.card_closing.specs.Accruals.{nothing_accrued}
use Rattle.card_model.specs.Cycles.{Cycle}
use Rattle.card_model.specs.Folds.{cycle_at}
use Rattle.card_model.specs.Segments.{SegmentTerms}
use Rattle.card_daily.specs.Given.{Given, book_on}
use Rattle.card_daily.specs.Stands.{HaveAccrued}
use Rattle.card_dayend.proofs.Each.{same-map}
use Rattle.card_book.proofs.Passing.{few-pass}
use Rattle.card_book.specs.Marks.{IsMark, MarksGrow, accrued_at, accrued_to, rated_in}
use Rattle.card_book.specs.declared.marks.Accruing.{Accruing}

-- ---- lists with one more behind
split : {A : Type 0} (xs : List A) (y : A) (i : ℕ) (z : A) → slice_get (xs ++ y ∷ []) i ≡ Some z → (slice_get xs i ≡ Some z) ⊎ ((i ≡ length xs) × (y ≡ z))
split [] y zero z e = inr (refl, same_Some y z e)
split [] y (suc i) z e = let none : None ≡ Some z = e in absurd (cc)
split (x ∷ xs) y zero z e = inl e
split (x ∷ xs) y (suc i) z e = by (split xs y i z e)
  where
    by : (slice_get xs i ≡ Some z) ⊎ ((i ≡ length xs) × (y ≡ z)) → (slice_get xs i ≡ Some z) ⊎ ((suc i ≡ suc (length xs)) × (y ≡ z))
    by (inl h) = inl h
    by (inr h) = inr (ap suc h.0, h.1)

below : {A : Type 0} (xs : List A) (i : ℕ) (z : A) → slice_get xs i ≡ Some z → i < length xs
below [] i z e = let none : None ≡ Some z = e in absurd (cc)
below (x ∷ xs) zero z e = omega arith
below (x ∷ xs) (suc i) z e = let l = below xs i z e in omega (arith, l)

-- ---- what is found
find-front : (p : Accruing → Bool) (xs ys : List Accruing) → All (λ (y : Accruing). p y ≡ false) ys → find p (xs ++ ys) ≡ find p xs
find-front p [] [] h = refl
find-front p [] (y ∷ ys) h = let first = All-head (λ (a : Accruing). p a ≡ false) y ys h in rw first (find-front p [] ys (All-tail (λ (a : Accruing). p a ≡ false) y ys h))
find-front p (x ∷ xs) ys h = by (p x) refl (find-front p xs ys h)
  where
    by : (t : Bool) → p x ≡ t → find p (xs ++ ys) ≡ find p xs → find p (x ∷ xs ++ ys) ≡ find p (x ∷ xs)
    by true e rest = rw e refl
    by false e rest = rw e rest

find-back : (p : Accruing → Bool) (xs ys : List Accruing) → All (λ (x : Accruing). p x ≡ false) xs → find p (xs ++ ys) ≡ find p ys
find-back p [] ys h = refl
find-back p (x ∷ xs) ys h = let first = All-head (λ (a : Accruing). p a ≡ false) x xs h in rw first (find-back p xs ys (All-tail (λ (a : Accruing). p a ≡ false) x xs h))

abbrev is-of : ℕ → ℕ → Accruing → Bool
is-of cycle segment a = (a.cycle == cycle) && (a.segment == segment)

other : (cycle segment : ℕ) (a : Accruing) → (a.cycle ≡ cycle → ⊥) → is-of cycle segment a ≡ false
other cycle segment a n = and_left (a.cycle == cycle) (a.segment == segment) (ne_eqb a.cycle cycle n)

at-front : (cycle segment : ℕ) (xs ys : List Accruing) → All (λ (a : Accruing). a.cycle ≡ cycle → ⊥) ys → accrued_at cycle (xs ++ ys) segment ≡ accrued_at cycle xs segment
unfolding accrued_at
at-front cycle segment xs ys h =
    ap (λ o. option_map_or (λ (a : Accruing). a.accrual) o nothing_accrued)
    (find-front (is-of cycle segment) xs ys (All-weaker (λ (a : Accruing). a.cycle ≡ cycle → ⊥) (λ (a : Accruing). is-of cycle segment a ≡ false) (λ a n. other cycle segment a n) ys h))

at-back : (cycle segment : ℕ) (xs ys : List Accruing) → All (λ (a : Accruing). a.cycle ≡ cycle → ⊥) xs → accrued_at cycle (xs ++ ys) segment ≡ accrued_at cycle ys segment
unfolding accrued_at
at-back cycle segment xs ys h =
    ap (λ o. option_map_or (λ (a : Accruing). a.accrual) o nothing_accrued)
    (find-back (is-of cycle segment) xs ys (All-weaker (λ (a : Accruing). a.cycle ≡ cycle → ⊥) (λ (a : Accruing). is-of cycle segment a ≡ false) (λ a n. other cycle segment a n) xs h))

-- a mark by a list that has the same of its cycle
mark-by : (g : Given) (k : ℕ) (c : Cycle) (s : Option ℕ) (xs ys : List Accruing) → ((segment : ℕ) → accrued_at k ys segment ≡ accrued_at k xs segment) → IsMark g k c s xs → IsMark g k c s ys
mark-by g k c s xs ys same h = record {
  since = h.since;
  accrued = subst (HaveAccrued g c.closing (book_on g c.closing) (rated_in g)) (sym (same-map (λ (t : SegmentTerms). accrued_at k ys t.id) (λ (t : SegmentTerms). accrued_at k xs t.id) (rated_in g) (λ t i. same t.id))) h.accrued;
}

-- ---- the order of what has accrued
pub all-pass : (k : ℕ) (xs : List Accruing) → All (λ (a : Accruing). a.cycle ≤ k) xs → accrued_to k xs ≡ xs
all-pass k [] h = refl
all-pass k (x ∷ xs) h =
    let low = All-head (λ (a : Accruing). a.cycle ≤ k) x xs h in
    let here : nat_le x.cycle k ≡ true = grind (arith, nat_tests) in
    rw here (ap (λ l. x ∷ l) (all-pass k xs (All-tail (λ (a : Accruing). a.cycle ≤ k) x xs h)))

none-pass : (k : ℕ) (xs : List Accruing) → All (λ (a : Accruing). k < a.cycle) xs → accrued_to k xs ≡ []
none-pass k [] h = refl
none-pass k (x ∷ xs) h =
    let high = All-head (λ (a : Accruing). k < a.cycle) x xs h in
    let here : nat_le x.cycle k ≡ false = grind (arith, nat_tests) in
    rw here (none-pass k xs (All-tail (λ (a : Accruing). k < a.cycle) x xs h))

ordered-more : (n : ℕ) (kept more : List Accruing) → ((k : ℕ) → take (length (accrued_to k kept)) kept ≡ accrued_to k kept) → All (λ (a : Accruing). a.cycle ≤ n) kept → All (λ (a : Accruing). a.cycle ≡ n + 1) more
    → (k : ℕ) → take (length (accrued_to k (kept ++ more))) (kept ++ more) ≡ accrued_to k (kept ++ more)
ordered-more n kept more h early late k = by (cases_lt k (n + 1))
  where
    by : (k < n + 1) ⊎ (n + 1 ≤ k) → take (length (accrued_to k (kept ++ more))) (kept ++ more) ≡ accrued_to k (kept ++ more)
    by (inl l) =
        let none = none-pass k more (All-weaker (λ (a : Accruing). a.cycle ≡ n + 1) (λ (a : Accruing). k < a.cycle) (λ a e. omega (arith, e, l)) more late) in
        let same : accrued_to k (kept ++ more) ≡ accrued_to k kept = filter-append (λ (a : Accruing). nat_le a.cycle k) kept more ∙ (ap (λ u. accrued_to k kept ++ u) none ∙ append-nil (accrued_to k kept)) in
        ap (λ u. take (length u) (kept ++ more)) same ∙ (take-append-le (length (accrued_to k kept)) kept more (few-pass (λ (a : Accruing). nat_le a.cycle k) kept) ∙ (h k ∙ sym same))
    by (inr l) =
        let all = all-pass k (kept ++ more) (All-append (λ (a : Accruing). a.cycle ≤ k) kept more
        (All-weaker (λ (a : Accruing). a.cycle ≤ n) (λ (a : Accruing). a.cycle ≤ k) (λ a m. omega (arith, m, l)) kept early)
        (All-weaker (λ (a : Accruing). a.cycle ≡ n + 1) (λ (a : Accruing). a.cycle ≤ k) (λ a e. omega (arith, e, l)) more late)) in
        ap (λ u. take (length u) (kept ++ more)) all ∙ (take_all (length (kept ++ more)) (kept ++ more) (omega arith) ∙ sym all)

-- ---- all marks
pub marks_grow : MarksGrow
marks_grow g cycles since kept more c s h new there mark =
    let n = length cycles in
    let late = All-weaker (λ (a : Accruing). a.cycle ≡ n + 1) (λ (a : Accruing). a.cycle ≤ n + 1) (λ a e. omega (arith, e)) more new in
    let early = All-weaker (λ (a : Accruing). a.cycle ≤ n) (λ (a : Accruing). a.cycle ≤ n + 1) (λ a l. omega (arith, l)) kept h.closed in
    let long : length (cycles ++ c ∷ []) ≡ n + 1 = length-append cycles (c ∷ []) in
    record {
      count = length-append since (s ∷ []) ∙ (ap (λ m. m + 1) h.count ∙ sym long);
      each = λ k d r at got. mark-of k d r at got;
      closed = subst (λ m. All (λ (a : Accruing). a.cycle ≤ m) (kept ++ more)) (sym long) (All-append (λ (a : Accruing). a.cycle ≤ n + 1) kept more early late);
      ordered = ordered-more n kept more h.ordered h.closed new;
      there = All-append (λ (a : Accruing). a.segment < length (rated_in g) + 2) kept more h.there there;
    }
  where
    old : (i : ℕ) (d : Cycle) (r : Option ℕ) → slice_get cycles i ≡ Some d → slice_get (since ++ s ∷ []) i ≡ Some r → IsMark g (suc i) d r (kept ++ more)
    old i d r at got =
        let less = below cycles i d at in
        let none = All-weaker (λ (a : Accruing). a.cycle ≡ length cycles + 1) (λ (a : Accruing). a.cycle ≡ suc i → ⊥) (λ a e f. omega (arith, e, f, less)) more new in
        mark-by g (suc i) d r kept (kept ++ more) (λ segment. at-front (suc i) segment kept more none) (old-mark i d r less at (split since s i r got))
      where
        old-mark : (i : ℕ) (d : Cycle) (r : Option ℕ) → i < length cycles → slice_get cycles i ≡ Some d → (slice_get since i ≡ Some r) ⊎ ((i ≡ length since) × (s ≡ r)) → IsMark g (suc i) d r kept
        old-mark i d r less at (inl e) = let back : suc i - 1 ≡ i = omega arith in h.each (suc i) d r at (ap (slice_get since) back ∙ e)
        old-mark i d r less at (inr e) = let place = e.0 in let count = h.count in absurd (omega (arith, less, place, count))

    last : (i : ℕ) (d : Cycle) (r : Option ℕ) → i ≡ length cycles → c ≡ d → slice_get (since ++ s ∷ []) i ≡ Some r → IsMark g (suc i) d r (kept ++ more)
    last i d r place is got =
        let none = All-weaker (λ (a : Accruing). a.cycle ≤ length cycles) (λ (a : Accruing). a.cycle ≡ length cycles + 1 → ⊥) (λ a l e. omega (arith, l, e)) kept h.closed in
        let all = mark-by g (length cycles + 1) c s more (kept ++ more) (λ segment. at-back (length cycles + 1) segment kept more none) mark in
        let number : length cycles + 1 ≡ suc i = omega (arith, place) in
        subst (λ k. IsMark g k d r (kept ++ more)) number
        (subst (λ x. IsMark g (length cycles + 1) x r (kept ++ more)) is (subst (λ x. IsMark g (length cycles + 1) c x (kept ++ more)) (day-is (split since s i r got)) all))
      where
        day-is : (slice_get since i ≡ Some r) ⊎ ((i ≡ length since) × (s ≡ r)) → s ≡ r
        day-is (inl e) = let less = below since i r e in let count = h.count in absurd (omega (arith, less, place, count))
        day-is (inr e) = e.1

    mark-of : (k : ℕ) (d : Cycle) (r : Option ℕ) → cycle_at k (cycles ++ c ∷ []) ≡ Some d → slice_get (since ++ s ∷ []) (k - 1) ≡ Some r → IsMark g k d r (kept ++ more)
    mark-of zero d r at got = let none : None ≡ Some d = at in absurd (cc)
    mark-of (suc i) d r at got =
        let back : suc i - 1 ≡ i = omega arith in
        which i d r (ap (slice_get (since ++ s ∷ [])) (sym back) ∙ got) (split cycles c i d at)
      where
        which : (i : ℕ) (d : Cycle) (r : Option ℕ) → slice_get (since ++ s ∷ []) i ≡ Some r → (slice_get cycles i ≡ Some d) ⊎ ((i ≡ length cycles) × (c ≡ d)) → IsMark g (suc i) d r (kept ++ more)
        which i d r got (inl e) = old i d r e got
        which i d r got (inr e) = last i d r e.0 e.1 got
