-- Six months counted one after another are those of the ledger's definitions.
use Rattle.std.proofs.Common.{◌≡◌, ℕ, zero, suc, ◌+◌, ◌-◌, ◌*◌, ◌≤◌, ◌<◌, Bool, true, false, cond, nat_lt, refl, ap, ◌∙◌, arith}
use Rattle.std.proofs.lemmas.Bool.Decides.{nat_tests}
use Rattle.card_events.proofs.Cycles.{number_parts}
use Rattle.card_events.specs.Civil.{Civil, date_in, date_of, days_before_year, month_length, year_of}
use Rattle.card_events.specs.Later.{clipped_day_at, six_months_after, six_months_on}
use Rattle.card_rules.specs.Months.{day_in, month_of, months_after}

-- a month is one of the twelve
in-months : (more y m left : ℕ) → 1 ≤ m → (1 ≤ (date_in more y m left).month) × ((date_in more y m left).month ≤ m + more)
unfolding date_in
in-months zero y m left l = (l, omega arith)
in-months (suc more) y m left l = by (nat_lt left (month_length y m)) (in-months more y (m + 1) (left - month_length y m) (omega arith))
  where
    by : (t : Bool) → (1 ≤ (date_in more y (m + 1) (left - month_length y m)).month) × ((date_in more y (m + 1) (left - month_length y m)).month ≤ m + 1 + more)
        → (1 ≤ (cond t (record { year = y; month = m; day = left + 1 }) (date_in more y (m + 1) (left - month_length y m))).month)
        × ((cond t (record { year = y; month = m; day = left + 1 }) (date_in more y (m + 1) (left - month_length y m))).month ≤ m + suc more)
    by true h = (l, omega arith)
    by false h = (h.0, omega (arith, h.1))

month-bounds : (day : ℕ) → (1 ≤ (date_of day).month) × ((date_of day).month ≤ 12)
unfolding date_of
month-bounds day = in-months 11 (year_of day) 1 (day - days_before_year (year_of day)) (omega arith)

counted : (i y m d : ℕ) → i ≡ 12 * y + (m - 1) → 1 ≤ m → m ≤ 12 → day_in i d ≡ clipped_day_at y m d
unfolding clipped_day_at
counted i y m d e low high =
    let parts = number_parts y m low high in
    ap (λ j. day_in j d) e ∙ rw (parts.0, parts.1) refl

six-on : (c : Civil) → 1 ≤ c.month → c.month ≤ 12 → day_in (month_of c + 6) c.day ≡ six_months_on c
unfolding six_months_on
six-on c low high = by (nat_lt 6 c.month) refl
  where
    by : (t : Bool) → nat_lt 6 c.month ≡ t → day_in (month_of c + 6) c.day ≡ cond t (clipped_day_at (c.year + 1) (c.month - 6) c.day) (clipped_day_at c.year (c.month + 6) c.day)
    by true e =
        let late : 6 < c.month = grind (arith, nat_tests) in
        counted (month_of c + 6) (c.year + 1) (c.month - 6) c.day (omega (arith, late, low)) (omega (arith, late)) (omega (arith, high))
    by false e =
        let early : c.month ≤ 6 = grind (arith, nat_tests) in
        counted (month_of c + 6) c.year (c.month + 6) c.day (omega (arith, low)) (omega arith) (omega (arith, early))

pub six-months : (day : ℕ) → months_after 6 day ≡ six_months_after day
six-months day = let b = month-bounds day in six-on (date_of day) b.0 b.1
