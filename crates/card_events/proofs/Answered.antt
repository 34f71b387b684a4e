-- Closings and due dates as the code answers them.
use Rattle.std.proofs.Common.{◌≡◌, ℕ, suc, ◌+◌, ◌-◌, ◌<◌, ◌≤◌, Option, Some, None, SomeIff, sym, ap, ◌∙◌, subst, arith, inl, inr, ◌⊎◌}
use Rattle.std.proofs.lemmas.Bool.{cases_lt}
use Rattle.card_events.specs.Range.{last_calendar_day}
use Rattle.card_events.specs.declared.anchor.Anchor.{Anchor}
use Rattle.card_events.specs.Billing.{closing, due_day_of_month, due}
use Rattle.card_events.specs.Months.{day_in_month, first_month, due_shift}
use Rattle.card_events.proofs.Cycles.{IsAnchor, first_month-bounds, day_in_month-range, closing_is, closing_late, due_is, due_late, due_day-bounds}

-- an answer that comes where P holds comes where Q does
pub restated : (r : Option ℕ) (P Q : Type 0) (x y : ℕ) → (P → Q) → (Q → P) → (P → x ≡ y) → SomeIff r P x → SomeIff r Q y
restated None P Q x y there back same h = λ q. h (back q)
restated (Some v) P Q x y there back same h = (there h.0, h.1 ∙ same h.0)

pub closing_answer : (r : Option ℕ) (a : Anchor) → IsAnchor a → (k i : ℕ) → i ≡ first_month a + k → SomeIff r ((24_132 ≤ i) × (i ≤ 25_235)) (day_in_month i a.close_day) → SomeIff r ((1 ≤ suc k) × (closing a (suc k) ≤ last_calendar_day)) (closing a (suc k))
closing_answer r a h k i e answer =
    restated r _ _ _ _
    (λ p. (omega arith, omega (arith, closing_is a h k (omega (arith, p.1)), ap (λ u. day_in_month u a.close_day) e, (day_in_month-range i a.close_day p.0 p.1 h.low h.high).1)))
    (λ q. (omega (arith, (first_month-bounds a h).0), within q.1))
    (λ p. ap (λ u. day_in_month u a.close_day) e ∙ sym (closing_is a h k (omega (arith, p.1))))
    answer
  where
    within : closing a (suc k) ≤ last_calendar_day → i ≤ 25_235
    within small = by (cases_lt i 25_236)
      where
        by : (i < 25_236) ⊎ (25_236 ≤ i) → i ≤ 25_235
        by (inl l) = omega arith
        by (inr late) = absurd (omega (arith, closing_late a h k (omega arith)))

pub due_answer : (r : Option ℕ) (a : Anchor) → IsAnchor a → (k i e : ℕ) → i ≡ first_month a + k + due_shift a.close_day → e ≡ due_day_of_month a.close_day → SomeIff r ((24_132 ≤ i) × (i ≤ 25_235)) (day_in_month i e) → SomeIff r ((1 ≤ suc k) × (due a (suc k) ≤ last_calendar_day)) (due a (suc k))
due_answer r a h k i e same day answer =
    restated r _ _ _ _
    (λ p. (omega arith, omega (arith, due_is a h k (omega (arith, p.1)), value, (day_in_month-range i e p.0 p.1 (omega (arith, days.0)) (omega (arith, days.1))).1)))
    (λ q. (omega (arith, (first_month-bounds a h).0), within q.1))
    (λ p. value ∙ sym (due_is a h k (omega (arith, p.1))))
    answer
  where
    days : (1 ≤ due_day_of_month a.close_day) × (due_day_of_month a.close_day ≤ 28)
    days = due_day-bounds a.close_day h.low h.high

    value : day_in_month i e ≡ day_in_month (first_month a + k + due_shift a.close_day) (due_day_of_month a.close_day)
    value = ap (λ u. day_in_month u e) same ∙ ap (λ u. day_in_month (first_month a + k + due_shift a.close_day) u) day

    within : due a (suc k) ≤ last_calendar_day → i ≤ 25_235
    within small = by (cases_lt i 25_236)
      where
        by : (i < 25_236) ⊎ (25_236 ≤ i) → i ≤ 25_235
        by (inl l) = omega arith
        by (inr late) = absurd (omega (arith, due_late a h k (omega arith)))

pub closing_reply : (r : Option ℕ) (a : Anchor) → IsAnchor a → (k i : ℕ) → 1 ≤ k → i ≡ first_month a + (k - 1) → SomeIff r ((24_132 ≤ i) × (i ≤ 25_235)) (day_in_month i a.close_day) → SomeIff r ((1 ≤ k) × (closing a k ≤ last_calendar_day)) (closing a k)
closing_reply r a h k i low e answer =
    let back : suc (k - 1) ≡ k = omega arith in
    subst (λ n. SomeIff r ((1 ≤ n) × (closing a n ≤ last_calendar_day)) (closing a n)) back (closing_answer r a h (k - 1) i e answer)

pub due_reply : (r : Option ℕ) (a : Anchor) → IsAnchor a → (k i e : ℕ) → 1 ≤ k → i ≡ first_month a + (k - 1) + due_shift a.close_day → e ≡ due_day_of_month a.close_day → SomeIff r ((24_132 ≤ i) × (i ≤ 25_235)) (day_in_month i e) → SomeIff r ((1 ≤ k) × (due a k ≤ last_calendar_day)) (due a k)
due_reply r a h k i e low same day answer =
    let back : suc (k - 1) ≡ k = omega arith in
    subst (λ n. SomeIff r ((1 ≤ n) × (due a n ≤ last_calendar_day)) (due a n)) back (due_answer r a h (k - 1) i e same day answer)
