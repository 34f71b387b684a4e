-- The last two cycles.
use Rattle.std.proofs.Common.{◌≡◌, ℕ, zero, suc, ◌+◌, ◌-◌, ◌≤◌, true, false, ◌==◌, List, [], ◌∷◌, length, Option, Some, None, refl, sym, ap, ◌∙◌, arith}
use Rattle.std.specs.List.{last_or}
use Rattle.std.specs.Option.{option_map, option_or}
use Rattle.std.specs.Prelude.{IfSome, slice_get}
use Rattle.std.proofs.lemmas.Bool.Decides.{nat_tests}
use Rattle.card_events.specs.declared.anchor.Anchor.{Anchor}
use Rattle.card_model.specs.Cycles.{Cycle, Seen, last_cycle}
use Rattle.card_model.specs.Folds.{cycle_at}
use Rattle.card_model.specs.Interest.{case_after, cycle_before, purchase_case}
use Rattle.card_model.specs.Payments.{due_cycle_of}
use Rattle.card_model.specs.declared.due_cycle.DueCycle.{DueCycle}
use Rattle.card_model.specs.Segments.{last_that}
use Rattle.card_fees.specs.DueLaws.{AreDueBy, AreOfTheCalendar, due_cycle_at}

-- the cycles have numbers in turn, the first k
abbrev AreNumbered : ℕ → List Cycle → Type 0
AreNumbered k cs = (i : ℕ) (c : Cycle) → slice_get cs i ≡ Some c → c.number ≡ k + i

tail-numbered : (k : ℕ) (c : Cycle) (cs : List Cycle) → AreNumbered k (c ∷ cs) → AreNumbered (suc k) cs
tail-numbered k c cs h i d e = let n : d.number ≡ k + suc i = h (suc i) d e in omega (arith, n)

or-none : {A : Type 0} (o : Option A) → option_or o None ≡ o
or-none None = refl
or-none (Some x) = refl

above-it : (n k m : ℕ) → n ≡ k + 0 → m ≤ k → (n + 1 == m) ≡ false
above-it n k m e l = grind (arith, nat_tests)

is-it : (n k : ℕ) → n ≡ k + 0 → (n + 1 == k + 1 + 0) ≡ true
is-it n k e = grind (arith, nat_tests)

below-it : (n k i : ℕ) → n ≡ k + 0 → (n + 1 == k + 1 + suc i) ≡ false
below-it n k i e = grind (arith, nat_tests)

none-before : (m k : ℕ) (cs : List Cycle) → AreNumbered k cs → m ≤ k → last_that (λ d. d.number + 1 == m) cs ≡ None
none-before m k [] h l = refl
none-before m k (c ∷ cs) h l =
    let rest = none-before m (suc k) cs (tail-numbered k c cs h) (omega (arith, l)) in
    let no = above-it c.number k m (h 0 c refl) l in
    rw (rest, no) refl

before-at : (k i : ℕ) (cs : List Cycle) → AreNumbered k cs → last_that (λ d. d.number + 1 == k + 1 + i) cs ≡ slice_get cs i
before-at k zero [] h = refl
before-at k (suc i) [] h = refl
before-at k zero (c ∷ cs) h =
    let rest = none-before (k + 1 + 0) (suc k) cs (tail-numbered k c cs h) (omega arith) in
    let yes = is-it c.number k (h 0 c refl) in
    rw (rest, yes) refl
before-at k (suc i) (c ∷ cs) h =
    let no = below-it c.number k i (h 0 c refl) in
    let on : k + 1 + suc i ≡ suc k + 1 + i = omega arith in
    let rest : last_that (λ d. d.number + 1 == k + 1 + suc i) cs ≡ slice_get cs i = ap (λ m. last_that (λ d. d.number + 1 == m) cs) on ∙ before-at (suc k) i cs (tail-numbered k c cs h) in
    rw no (or-none (last_that (λ d. d.number + 1 == k + 1 + suc i) cs) ∙ rest)

-- ---- the last cycle, and the one before it
abbrev last-of : Cycle → List Cycle → Cycle
last-of c [] = c
last-of c (d ∷ ds) = last-of d ds

last-get : (o : Option Cycle) (c : Cycle) (cs : List Cycle) → last_or o (c ∷ cs) ≡ Some (last-of c cs)
last-get o c [] = refl
last-get o c (d ∷ ds) = last-get (Some c) d ds

last-at : (c : Cycle) (cs : List Cycle) → slice_get (c ∷ cs) (length cs) ≡ Some (last-of c cs)
last-at c [] = refl
last-at c (d ∷ ds) = last-at d ds

before-is : (n : ℕ) (cs : List Cycle) (l : Cycle) → AreNumbered 1 cs → l.number ≡ suc n → cycle_before cs l ≡ cycle_at n cs
before-is zero cs l h e = ap (λ m. last_that (λ d. d.number + 1 == m) cs) e ∙ none-before 1 1 cs h (omega arith)
before-is (suc n) cs l h e = let on : l.number ≡ 1 + 1 + n = omega (arith, e) in ap (λ m. last_that (λ d. d.number + 1 == m) cs) on ∙ before-at 1 n cs h

last-place : (cs : List Cycle) → last_cycle cs ≡ cycle_at (length cs) cs
last-place [] = refl
last-place (c ∷ cs) = last-get None c cs ∙ sym (last-at c cs)

-- of cycles that have the calendar's numbers, the one before the last has the number before
pub before-last : (a : Anchor) (cycles : List Cycle) (c : Cycle) → AreOfTheCalendar a cycles → last_cycle cycles ≡ Some c → cycle_before cycles c ≡ cycle_at (length cycles - 1) cycles
before-last a [] c days is = absurd (cc)
before-last a (x ∷ xs) c days is =
    let same : last-of x xs ≡ c = some-is (last-of x xs) c (sym (last-get None x xs) ∙ is) in
    let own = days (suc (length xs)) (last-of x xs) (last-at x xs) in
    let back : suc (length xs) - 1 ≡ length xs = omega arith in
    ap (cycle_before (x ∷ xs)) (sym same) ∙ before-is (length xs) (x ∷ xs) (last-of x xs) numbered own.number ∙ ap (λ m. cycle_at m (x ∷ xs)) (sym back)
  where
    some-is : (y z : Cycle) → Some y ≡ Some z → y ≡ z
    some-is y z e = cc

    numbered : AreNumbered 1 (x ∷ xs)
    numbered i d e = let n = (days (suc i) d e).number in omega (arith, n)

-- their due dates lie no later than a day
pub due-at : (seen : Seen) (day k : ℕ) (cycles : List Cycle) → AreDueBy day cycles → IfSome (due_cycle_at seen k cycles) (λ d. d.due ≤ day)
due-at seen day k cycles dues = by (cycle_at k cycles) (dues k)
  where
    by : (o : Option Cycle) → ((c : Cycle) → o ≡ Some c → c.due ≤ day) → IfSome (option_map (due_cycle_of seen.issued) o) (λ d. d.due ≤ day)
    by None h = tt
    by (Some c) h = h c refl

-- by the last two places as by the last cycle and the one before it
pub by-places : (a : Anchor) (seen : Seen) (cycles : List Cycle) → AreOfTheCalendar a cycles
    → purchase_case seen cycles (last_cycle cycles) ≡ case_after seen.posts (due_cycle_at seen (length cycles - 1) cycles) (due_cycle_at seen (length cycles) cycles)
by-places a seen cycles days = by (last_cycle cycles) refl
  where
    before : Option DueCycle
    before = due_cycle_at seen (length cycles - 1) cycles

    by : (o : Option Cycle) → last_cycle cycles ≡ o → purchase_case seen cycles o ≡ case_after seen.posts before (due_cycle_at seen (length cycles) cycles)
    by None e = ap (λ o. case_after seen.posts before (option_map (due_cycle_of seen.issued) o)) (sym e ∙ last-place cycles)
    by (Some c) e =
        ap (λ o. case_after seen.posts (option_map (due_cycle_of seen.issued) o) (Some (due_cycle_of seen.issued c))) (before-last a cycles c days e)
        ∙ ap (λ o. case_after seen.posts before (option_map (due_cycle_of seen.issued) o)) (sym e ∙ last-place cycles)
