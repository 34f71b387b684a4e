-- The greatest due date before a day, and the day as of which mail is credited.
use Rattle.std.proofs.Common.{◌≡◌, ℕ, zero, suc, ◌+◌, ◌-◌, ◌<◌, ◌≤◌, Bool, true, false, ◌&&◌, eqb, nat_lt, Some, refl, ap, ◌∙◌, arith, inl, inr, ◌⊎◌, eq-eqb}
use Rattle.std.proofs.lemmas.Bool.{cases_lt}
use Rattle.std.proofs.lemmas.Bool.Decides.{nat_tests}
use Rattle.card_events.specs.Range.{last_calendar_day, first_calendar_day}
use Rattle.card_events.specs.declared.anchor.Anchor.{Anchor}
use Rattle.card_events.specs.Civil.{date_of, day_of_month}
use Rattle.card_events.specs.Billing.{closing, due_day_of_month, due_after, due}
use Rattle.card_events.specs.Business.{is_due}
use Rattle.card_events.specs.Months.{IsLastDue, day_in_month, month_from, first_month, due_shift}
use Rattle.card_events.proofs.Months.{first_day-from, first_day-below, dated, month_civil, next_month-next}
use Rattle.card_events.proofs.Cycles.{IsAnchor, first_month-bounds, month_from-bounds, next_on-number, due_is, due_grows, due_day-bounds, shift_small}
use Rattle.card_events.proofs.Business.{first_day-at_most}

-- ---- days of the same number
pub day_in_month-up : (i n d : ℕ) → 23_640 ≤ i → i + n ≤ 26_000 → 1 ≤ d → d ≤ 28 → day_in_month i d ≤ day_in_month (i + n) d
day_in_month-up i zero d low high d1 d2 = let none : i + 0 ≡ i = omega arith in rw none (omega arith)
day_in_month-up i (suc n) d low high d1 d2 =
    let on : i + n + 1 ≡ i + suc n = omega arith in
    omega (arith, day_in_month-up i n d low (omega arith) d1 d2, next_month-next (i + n) d d (omega arith) (omega arith) d1 (omega arith) d2, first_day-from (λ x. eqb (day_of_month x) d) 31 (day_in_month (i + n) d + 1), ap (λ u. day_in_month u d) on)

pub month_day : (i d : ℕ) → 23_640 ≤ i → i ≤ 26_000 → 1 ≤ d → d ≤ 28 → day_of_month (day_in_month i d) ≡ d
unfolding day_in_month
month_day i d low high d1 d2 = dated _ _ d (month_civil i d low (omega arith) d1 d2)

-- the day of the month before the next one lies before the day
earlier_day : (e day : ℕ) → first_calendar_day ≤ day → day ≤ last_calendar_day → 1 ≤ e → e ≤ 28 → day_in_month (month_from e (date_of day) - 1) e < day
earlier_day e day low high e1 e2 = by (cases_lt (day_in_month (month_from e (date_of day) - 1) e) day)
  where
    bounds : (24_132 ≤ month_from e (date_of day)) × (month_from e (date_of day) ≤ 25_236)
    bounds = month_from-bounds day e low high

    back : month_from e (date_of day) - 1 + 1 ≡ month_from e (date_of day)
    back = omega (arith, bounds.0)

    by : (day_in_month (month_from e (date_of day) - 1) e < day) ⊎ (day ≤ day_in_month (month_from e (date_of day) - 1) e) → day_in_month (month_from e (date_of day) - 1) e < day
    by (inl l) = l
    by (inr late) =
        let i = month_from e (date_of day) - 1 in
        let on = next_month-next i e e (omega (arith, bounds.0)) (omega (arith, bounds.1)) e1 (omega arith) e2 in
        let passes : eqb (day_of_month (day_in_month i e)) e ≡ true = eq-eqb _ _ (month_day i e (omega (arith, bounds.0)) (omega (arith, bounds.1)) e1 e2) in
        let most = first_day-at_most (λ x. eqb (day_of_month x) e) 31 day (day_in_month i e) late passes in
        absurd (omega (arith, on, most, next_on-number day e low high e1 e2, ap (λ u. day_in_month u e) back, first_day-from (λ x. eqb (day_of_month x) e) 31 (day_in_month i e + 1)))

-- no other day of that number lies between
between : (e day x : ℕ) → first_calendar_day ≤ day → day ≤ last_calendar_day → 1 ≤ e → e ≤ 28 → day_in_month (month_from e (date_of day) - 1) e < x → x < day → eqb (day_of_month x) e ≡ false
between e day x low high e1 e2 after before =
    let bounds = month_from-bounds day e low high in
    let i : ℕ = month_from e (date_of day) - 1 in
    let back : i + 1 ≡ month_from e (date_of day) = omega (arith, bounds.0) in
    let on = next_month-next i e e (omega (arith, bounds.0)) (omega (arith, bounds.1)) e1 (omega arith) e2 in
    let from = first_day-from (λ u. eqb (day_of_month u) e) 31 day in
    first_day-below (λ u. eqb (day_of_month u) e) 31 (day_in_month i e + 1) x (omega arith) (omega (arith, on, from, ap (λ u. day_in_month u e) back, next_on-number day e low high e1 e2))

-- ---- due dates
no_due : (a : Anchor) (x : ℕ) → eqb (day_of_month x) (due_day_of_month a.close_day) ≡ false → is_due a x ≡ false
unfolding is_due
no_due a x h = rw h refl

early_due : (a : Anchor) (x : ℕ) → x ≤ closing a 1 → is_due a x ≡ false
unfolding is_due
early_due a x h = let no : nat_lt (closing a 1) x ≡ false = grind (arith, nat_tests) in rw no (both (eqb (day_of_month x) (due_day_of_month a.close_day)))
  where
    both : (b : Bool) → (b && false) ≡ false
    both true = refl
    both false = refl

pub first_due : (a : Anchor) → IsAnchor a → due a 1 ≡ day_in_month (first_month a + due_shift a.close_day) (due_day_of_month a.close_day)
first_due a h =
    let bounds = first_month-bounds a h in
    let none : first_month a + 0 + due_shift a.close_day ≡ first_month a + due_shift a.close_day = omega arith in
    due_is a h 0 (omega (arith, bounds.1)) ∙ ap (λ i. day_in_month i (due_day_of_month a.close_day)) none

-- before the first due date there is none
none_before : (a : Anchor) (x : ℕ) → x < due a 1 → is_due a x ≡ false
unfolding due_after
none_before a x l = by (cases_lt (closing a 1) x)
  where
    by : (closing a 1 < x) ⊎ (x ≤ closing a 1) → is_due a x ≡ false
    by (inl after) = no_due a x (first_day-below (λ u. eqb (day_of_month u) (due_day_of_month a.close_day)) 31 (closing a 1 + 1) x (omega arith) l)
    by (inr before) = early_due a x before

pub last_due-none : (a : Anchor) → IsAnchor a → (day : ℕ) → first_calendar_day ≤ day → day ≤ last_calendar_day → month_from (due_day_of_month a.close_day) (date_of day) ≤ first_month a + due_shift a.close_day → (x : ℕ) → x < day → is_due a x ≡ false
last_due-none a h day low high le x l =
    let e = due_day_of_month a.close_day in
    let e' = due_day-bounds a.close_day h.low h.high in
    let bounds = month_from-bounds day e low high in
    let first = first_month-bounds a h in
    let whole : month_from e (date_of day) + (first_month a + due_shift a.close_day - month_from e (date_of day)) ≡ first_month a + due_shift a.close_day = omega (arith, le) in
    let up = day_in_month-up (month_from e (date_of day)) (first_month a + due_shift a.close_day - month_from e (date_of day)) e (omega (arith, bounds.0)) (omega (arith, first.1, shift_small a.close_day)) e'.0 e'.1 in
    none_before a x (omega (arith, up, ap (λ u. day_in_month u e) whole, first_due a h, next_on-number day e low high e'.0 e'.1, first_day-from (λ u. eqb (day_of_month u) e) 31 day))

pub last_due-some : (a : Anchor) → IsAnchor a → (day : ℕ) → first_calendar_day ≤ day → day ≤ last_calendar_day → first_month a + due_shift a.close_day < month_from (due_day_of_month a.close_day) (date_of day) → (i : ℕ) → i ≡ month_from (due_day_of_month a.close_day) (date_of day) - 1 → IsLastDue a day (Some (day_in_month i (due_day_of_month a.close_day)))
unfolding is_due
last_due-some a h day low high less i is = (
  rw is (earlier_day e day low high e'.0 e'.1),
  rw (on_number, on_time) refl,
  λ x after before. no_due a x (between e day x low high e'.0 e'.1 (rw (← is) after) before),
)
  where
    e : ℕ
    e = due_day_of_month a.close_day

    e' : (1 ≤ due_day_of_month a.close_day) × (due_day_of_month a.close_day ≤ 28)
    e' = due_day-bounds a.close_day h.low h.high

    bounds : (24_132 ≤ month_from e (date_of day)) × (month_from e (date_of day) ≤ 25_236)
    bounds = month_from-bounds day e low high

    first : (24_132 ≤ first_month a) × (first_month a ≤ 25_236)
    first = first_month-bounds a h

    whole : first_month a + due_shift a.close_day + (i - (first_month a + due_shift a.close_day)) ≡ i
    whole = omega (arith, less, is)

    on_number : eqb (day_of_month (day_in_month i e)) e ≡ true
    on_number = eq-eqb _ _ (month_day i e (omega (arith, bounds.0, is)) (omega (arith, bounds.1, is)) e'.0 e'.1)

    up : day_in_month (first_month a + due_shift a.close_day) e ≤ day_in_month (first_month a + due_shift a.close_day + (i - (first_month a + due_shift a.close_day))) e
    up = day_in_month-up (first_month a + due_shift a.close_day) (i - (first_month a + due_shift a.close_day)) e (omega (arith, first.0)) (omega (arith, whole, bounds.1, is)) e'.0 e'.1

    after_closing : closing a 1 < day_in_month i e
    after_closing = omega (arith, up, ap (λ u. day_in_month u e) whole, first_due a h, due_grows a.close_day (closing a 1))

    on_time : nat_lt (closing a 1) (day_in_month i e) ≡ true
    on_time = let l = after_closing in grind (arith, nat_tests)
