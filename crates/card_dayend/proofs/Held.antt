-- The dates of a cycle, at a day that it holds.
use Rattle.std.proofs.Common.{◌≡◌, ℕ, ◌+◌, ◌-◌, ◌<◌, ◌≤◌, eqb, Option, None, Some, subst, arith, ◌⊎◌, inl, inr}
use Rattle.std.proofs.lemmas.Bool.{cases_lt}
use Rattle.card_events.specs.Billing.{closing, due}
use Rattle.card_events.specs.declared.anchor.Anchor.{Anchor}
use Rattle.card_rates.specs.Next.{IsNext}
use Rattle.card_dayend.specs.Spans.{HoldDay, IsCycleOf, closes, follows_due}
use Rattle.card_dayend.specs.declared.cursor.CycleDates.{CycleDates}
use Rattle.card_dayend.proofs.BreakDays.{closing-next, due-next, due-none}

pub cycle-at : (a : Anchor) (d : CycleDates) (day : ℕ) → HoldDay a d day → IsCycleOf a d.number day
cycle-at a d day h =
    let c = h.dates.cycle in
    let opened = c.opened in
    let first = h.first in
    let after = c.after in
    let upto = h.upto in
    let closes = h.dates.closes in
    record {
      opening = c.opening;
      opened = omega (arith, opened, first);
      last = h.last;
      numbered = c.numbered;
      after = omega (arith, after, first);
      upto = omega (arith, upto, closes);
    }

pub held-closing : (a : Anchor) (d : CycleDates) (first end day : ℕ) → HoldDay a d first → IsNext (λ x. eqb d.closing x) first end day → IsNext (closes a) first end day
held-closing a d first end day h next = closing-next a d.number first end day (cycle-at a d first h) (subst (λ n. IsNext (λ x. eqb n x) first end day) h.dates.closes next)

one-value : (x y : ℕ) (o : Option ℕ) → o ≡ Some x → o ≡ Some y → x ≡ y
one-value x y o e f = cc

not-both : (x : ℕ) (o : Option ℕ) → o ≡ None → o ≡ Some x → ⊥
not-both x o e f = cc

pub held-due : (a : Anchor) (d : CycleDates) (first end day on : ℕ) → HoldDay a d first → end ≤ closing a d.number → d.after_due ≡ Some on → IsNext (λ x. eqb on x) first end day → IsNext (follows_due a) first end day
held-due a d first end day on h within is next = by (cases_lt 1 d.number)
  where
    by : (1 < d.number) ⊎ (d.number ≤ 1) → IsNext (follows_due a) first end day
    by (inl l) =
        let same : on ≡ due a (d.number - 1) + 1 = one-value on (due a (d.number - 1) + 1) d.after_due is (h.dates.follows l) in
        due-next a d.number first end day (cycle-at a d first h) l within (subst (λ n. IsNext (λ x. eqb n x) first end day) same next)
    by (inr l) =
        let low = h.dates.cycle.numbered in
        let one : d.number ≡ 1 = omega (arith, low, l) in
        absurd (not-both on d.after_due (h.dates.first_cycle one) is)

pub held-no-due : (a : Anchor) (d : CycleDates) (first end : ℕ) → HoldDay a d first → first ≤ end → end ≤ closing a d.number → d.after_due ≡ None → IsNext (follows_due a) first end end
held-no-due a d first end h order within is = by (cases_lt 1 d.number)
  where
    by : (1 < d.number) ⊎ (d.number ≤ 1) → IsNext (follows_due a) first end end
    by (inl l) = absurd (not-both (due a (d.number - 1) + 1) d.after_due is (h.dates.follows l))
    by (inr l) =
        let low = h.dates.cycle.numbered in
        let one : d.number ≡ 1 = omega (arith, low, l) in
        due-none a first end (subst (λ n. IsCycleOf a n first) one (cycle-at a d first h)) order (subst (λ n. end ≤ closing a n) one within)
