-- The closings around a day.
use Rattle.std.proofs.Common.{◌≡◌, ℕ, zero, suc, ◌+◌, ◌-◌, ◌<◌, ◌≤◌, Bool, true, false, cond, eqb, refl, sym, ap, ◌∙◌, subst, arith, Option, Some, None}
use Rattle.std.specs.Prelude.{SomeIff, IsSome}
use Rattle.card_events.proofs.Cycles.{IsAnchor, closing_is, cycle_around, cycle_from_one, cycle_is, month_from-bounds, next_on-number}
use Rattle.card_events.specs.Billing.{closing, cycle_of, due, due_after, due_day_of_month, next_on}
use Rattle.card_events.specs.Civil.{date_of, day_of_month, first_day}
use Rattle.card_events.specs.Months.{day_in_month, first_month, month_from}
use Rattle.card_events.specs.Range.{last_request_day, last_calendar_day}
use Rattle.card_events.specs.declared.anchor.Anchor.{Anchor}
use Rattle.card_fees.proofs.Days.{closing-from}
use Rattle.card_model.specs.Books.{Account}
use Rattle.card_model.specs.CycleDays.{IsOpening}
use Rattle.card_model.specs.Effects.{second_closing}

pub anchored : (a : Anchor) → IsOpening a → IsAnchor a
anchored a h = let first = h.first in let last = h.last in record { first = first; last = last; low = h.close_day.0; high = h.close_day.1 }

-- ---- the first day that passes comes within the days that are tried
first_test : (t : Bool) (more day later : ℕ) → later ≤ day + 1 + more → cond t day later ≤ day + suc more
first_test true more day later l = omega arith
first_test false more day later l = omega (arith, l)

first-most : (p : ℕ → Bool) (more day : ℕ) → first_day p more day ≤ day + more
unfolding first_day
first-most p zero day = omega arith
first-most p (suc more) day = first_test (p day) more day (first_day p more (day + 1)) (first-most p more (day + 1))

pub next-most : (c day : ℕ) → next_on c day ≤ day + 31
next-most c day = first-most (λ d. eqb (day_of_month d) c) 31 day

pub due-most : (a : Anchor) (k : ℕ) → due a k ≤ closing a k + 32
unfolding due_after
due-most a k = let m = next-most (due_day_of_month a.close_day) (closing a k + 1) in omega (arith, m)

-- ---- the closing of a day's cycle and the next one
cycle-closing : (a : Anchor) → IsAnchor a → (day q : ℕ) → a.opened ≤ day → day ≤ last_calendar_day → cycle_of a day ≡ suc q → closing a (suc q) ≡ next_on a.close_day day
cycle-closing a h day q low high e =
    let first = h.first in
    let count = cycle_is a h day low high in
    let bounds = month_from-bounds day a.close_day (omega arith) high in
    let most = bounds.1 in
    let month : first_month a + q ≡ month_from a.close_day (date_of day) = omega arith in
    closing_is a h q (omega arith) ∙ ap (λ i. day_in_month i a.close_day) month ∙ sym (next_on-number day a.close_day (omega arith) high h.low h.high)

next-closing : (a : Anchor) (k : ℕ) → closing a (suc k) ≡ next_on a.close_day (closing a k + 1)
unfolding closing
next-closing a k = refl

pub second-is : (a : Account) (day : ℕ) → IsOpening a.anchor → a.anchor.opened ≤ day → day ≤ last_request_day → closing a.anchor (cycle_of a.anchor day + 1) ≡ second_closing a day
second-is a day h low high =
    let one = cycle_from_one a.anchor day in
    let back : cycle_of a.anchor day ≡ suc (cycle_of a.anchor day - 1) = omega (arith, one) in
    let next : cycle_of a.anchor day + 1 ≡ suc (cycle_of a.anchor day) = omega arith in
    let here = ap (closing a.anchor) back ∙ cycle-closing a.anchor (anchored a.anchor h) day (cycle_of a.anchor day - 1) low (omega arith) back in
    ap (closing a.anchor) next ∙ (next-closing a.anchor (cycle_of a.anchor day) ∙ ap (λ x. next_on a.anchor.close_day (x + 1)) here)

pub second-most : (a : Anchor) (day : ℕ) → IsOpening a → a.opened ≤ day → day ≤ last_request_day → closing a (cycle_of a day + 1) ≤ last_calendar_day
second-most a day h low high =
    let one = cycle_from_one a day in
    let back : cycle_of a day ≡ suc (cycle_of a day - 1) = omega (arith, one) in
    let next : cycle_of a day + 1 ≡ suc (cycle_of a day) = omega arith in
    let here = ap (closing a) back ∙ cycle-closing a (anchored a h) day (cycle_of a day - 1) low (omega arith) back in
    let first = next-most a.close_day day in
    let later = ap (closing a) next ∙ next-closing a (cycle_of a day) in
    let second = next-most a.close_day (closing a (cycle_of a day) + 1) in
    omega (arith, here, first, later, second)

-- its cycle has begun
pub begun-by : (a : Anchor) (day : ℕ) → IsOpening a → a.opened ≤ day → day ≤ last_request_day → closing a (cycle_of a day - 1) < day
begun-by a day h low high = (cycle_around a (anchored a h) day (cycle_of a day) low (omega arith) refl).0

-- it closes on the day or later
pub upto-closing : (a : Anchor) (day : ℕ) → IsOpening a → a.opened ≤ day → day ≤ last_request_day → day ≤ closing a (cycle_of a day)
upto-closing a day h low high = (cycle_around a (anchored a h) day (cycle_of a day) low (omega arith) refl).1

pub cycle-few : (a : Anchor) (day : ℕ) → IsOpening a → a.opened ≤ day → day ≤ last_request_day → cycle_of a day ≤ day
cycle-few a day h low high =
    let begun = begun-by a day h low high in
    let from = closing-from a (cycle_of a day - 1) in
    let one = cycle_from_one a day in
    omega (arith, begun, from, one)

-- ---- what is there where it may be
pub some-of : (o : Option ℕ) (P : Type 0) (v : ℕ) → SomeIff o P v → P → IsSome o
some-of None P v h p = absurd (h p)
some-of (Some x) P v h p = refl

pub value-of : (o : Option ℕ) (P : Type 0) (v x : ℕ) → SomeIff o P v → o ≡ Some x → x ≡ v
value-of o P v x h e = (subst (λ (u : Option ℕ). SomeIff u P v) e h).1
