-- The cycle that holds a day is the one whose closings lie around it.
use Rattle.std.proofs.Common.{◌≡◌, ℕ, zero, suc, ◌+◌, ◌-◌, ◌≤◌, ◌<◌, ◌⊎◌, inl, inr, arith, refl, subst}
use Rattle.std.proofs.lemmas.Bool.{cases_lt}
use Rattle.card_events.proofs.Cycles.{closing_grows, cycle_around}
use Rattle.card_events.specs.Billing.{closing, cycle_of}
use Rattle.card_events.specs.Range.{last_calendar_day}
use Rattle.card_events.specs.declared.anchor.Anchor.{Anchor}
use Rattle.card_model.proofs.Calendar.{is-anchor}
use Rattle.card_model.specs.CycleDays.{IsOpening}

closings-grow : (a : Anchor) (j n : ℕ) → closing a j ≤ closing a (j + n)
closings-grow a j zero = let same : j ≡ j + 0 = omega arith in subst (λ i. closing a j ≤ closing a i) same (omega arith)
closings-grow a j (suc n) =
    let rest = closings-grow a j n in
    let up = closing_grows a (j + n) in
    let next : suc (j + n) ≡ j + suc n = omega arith in
    subst (λ i. closing a j ≤ closing a i) next (omega (arith, rest, up))

pub closings-ascend : (a : Anchor) (j k : ℕ) → j ≤ k → closing a j ≤ closing a k
closings-ascend a j k l = let sum : j + (k - j) ≡ k = omega arith in subst (λ i. closing a j ≤ closing a i) sum (closings-grow a j (k - j))

-- a day is by a closing exactly where its cycle is
pub by-closing : (a : Anchor) (day k : ℕ) → IsOpening a → a.opened ≤ day → day ≤ last_calendar_day → cycle_of a day ≤ k → day ≤ closing a k
by-closing a day k h low high l =
    let around = cycle_around a (is-anchor a h) day (cycle_of a day) low high refl in
    let up = closings-ascend a (cycle_of a day) k l in
    omega (arith, around.1, up)

pub past-closing : (a : Anchor) (day k : ℕ) → IsOpening a → a.opened ≤ day → day ≤ last_calendar_day → k < cycle_of a day → closing a k < day
past-closing a day k h low high l =
    let around = cycle_around a (is-anchor a h) day (cycle_of a day) low high refl in
    let up = closings-ascend a k (cycle_of a day - 1) (omega (arith, l)) in
    omega (arith, around.0, up)

pub cycle-is : (a : Anchor) (day k : ℕ) → IsOpening a → a.opened ≤ day → day ≤ last_calendar_day → 1 ≤ k → closing a (k - 1) < day → day ≤ closing a k → cycle_of a day ≡ k
cycle-is a day k h low high one after by = pick (cases_lt (cycle_of a day) k) (cases_lt k (cycle_of a day))
  where
    pick : (cycle_of a day < k) ⊎ (k ≤ cycle_of a day) → (k < cycle_of a day) ⊎ (cycle_of a day ≤ k) → cycle_of a day ≡ k
    pick (inl l) o = let up = by-closing a day (k - 1) h low high (omega (arith, l, one)) in absurd (omega (arith, up, after))
    pick (inr l) (inl m) = let down = past-closing a day k h low high m in absurd (omega (arith, down, by))
    pick (inr l) (inr m) = omega (arith, l, m)
