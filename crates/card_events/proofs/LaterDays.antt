-- A day clipped to its month, and the days half a year and a year after.
use Rattle.std.proofs.Common.{◌≡◌, ℕ, ◌+◌, ◌-◌, ◌<◌, ◌≤◌, Bool, true, false, cond, ◌&&◌, min, nat_eq, nat_lt, refl, ◌∙◌, arith, ℤ, pos, inl, inr, ◌⊎◌}
use Rattle.std.proofs.lemmas.Bool.{cases_lt}
use Rattle.std.proofs.lemmas.Bool.Decides.{nat_tests}
use Rattle.jiff_core.specs.Calendar.{days_in_month, days_from_civil}
use Rattle.card_events.specs.Civil.{Civil, is_leap, month_length, days_before_year, days_of_months, day_at, date_of, IsInCalendar}
use Rattle.card_events.specs.Later.{clipped_day_at, six_months_on, year_on}
use Rattle.card_events.proofs.Counts.{number_is}
use Rattle.card_events.proofs.DateFacts.{day_at-range, from_calendar, date_of-in_calendar, day_at-date_of, after_first}
use Rattle.card_events.proofs.Months.{length_bounds}
use Rattle.card_events.specs.Range.{last_calendar_day, first_calendar_day, last_reckoned_day}

pub clipped-range : (y m d : ℕ) → 2011 ≤ y → y ≤ 2102 → 1 ≤ m → m ≤ 12 → 1 ≤ d → (first_calendar_day ≤ clipped_day_at y m d) × (clipped_day_at y m d ≤ last_calendar_day)
unfolding clipped_day_at
clipped-range y m d y1 y2 m1 m2 d1 =
    day_at-range y m (min d (month_length y m)) (from_calendar y m (min d (month_length y m)) (record {
      low_year = y1;
      high_year = y2;
      low_month = m1;
      high_month = m2;
      low_day = omega (arith, length_bounds y m);
      high_day = omega arith;
    }))

-- the number of the library's clipped date
pub clipped-number : (year : ℤ) (month day y m d : ℕ) → year ≡ pos y → month ≡ m → day ≡ min d (days_in_month (pos y) m) → 1970 ≤ y → 1 ≤ d → days_from_civil year month day ≡ pos (clipped_day_at y m d)
unfolding clipped_day_at
clipped-number year month day y m d ey em ed y1 d1 =
    rw (ey, em, ed) (number_is y m (min d (month_length y m)) y1 (omega (arith, length_bounds y m)))

day_2101 : day_at 2101 1 1 ≡ last_reckoned_day + 1
unfolding day_at days_before_year days_of_months
day_2101 = refl

-- a day up to 2100-12-31 lies in a year up to 2100
pub year_small : (n : ℕ) → first_calendar_day ≤ n → n ≤ last_reckoned_day → (date_of n).year ≤ 2100
year_small n low high = by (cases_lt 2100 (date_of n).year)
  where
    h : IsInCalendar (date_of n).year (date_of n).month (date_of n).day
    h = date_of-in_calendar n low (omega arith)

    by : (2100 < (date_of n).year) ⊎ ((date_of n).year ≤ 2100) → (date_of n).year ≤ 2100
    by (inl late) = absurd (omega (arith, after_first (date_of n).year (date_of n).month (date_of n).day 2101 (omega arith) late h.low_day, day_2101, day_at-date_of n (omega arith)))
    by (inr l) = l

pub six_late : (c : Civil) (y m d : ℕ) → y ≡ c.year → m ≡ c.month → d ≡ c.day → 6 < m → clipped_day_at (y + 1) (m - 6) d ≡ six_months_on c
unfolding six_months_on
six_late c y m d ey em ed l =
    let test : nat_lt 6 c.month ≡ true = grind (arith, nat_tests) in
    rw (test, ey, em, ed) refl

pub six_early : (c : Civil) (y m d : ℕ) → y ≡ c.year → m ≡ c.month → d ≡ c.day → m ≤ 6 → clipped_day_at y (m + 6) d ≡ six_months_on c
unfolding six_months_on
six_early c y m d ey em ed l =
    let test : nat_lt 6 c.month ≡ false = grind (arith, nat_tests) in
    rw (test, ey, em, ed) refl

pub year_leap : (c : Civil) (y m d : ℕ) → y ≡ c.year → m ≡ c.month → d ≡ c.day → m ≡ 2 → d ≡ 29 → clipped_day_at (y + 1) 3 1 ≡ year_on c
unfolding year_on clipped_day_at
year_leap c y m d ey em ed two last =
    let test : nat_eq c.month 2 ≡ true = grind (arith, nat_tests) in
    let test' : nat_eq c.day 29 ≡ true = grind (arith, nat_tests) in
    rw (test, test', ey) refl

-- any other day of a month is one of the same month a year later
month_by : (y m d : ℕ) (b : Bool) → nat_eq m 2 ≡ b → d ≤ month_length y m → (m ≡ 2 → d ≡ 29 → ⊥) → d ≤ month_length (y + 1) m
month_by y m d true e l other =
    let two : m ≡ 2 = grind (arith, nat_tests) in
    let least = (length_bounds (y + 1) m).1 in
    by (cases_lt 28 d) two (february (is_leap y) (rw e at l))
  where
    february : (leap : Bool) → d ≤ cond leap 29 28 → d ≤ 29
    february true m = m
    february false m = omega arith

    by : (28 < d) ⊎ (d ≤ 28) → m ≡ 2 → d ≤ 29 → d ≤ month_length (y + 1) m
    by (inl long) two most = absurd (other two (omega arith))
    by (inr short) two most = omega (arith, length_bounds (y + 1) m)
month_by y m d false e l other = rw e (rw e at l)

pub year_plain : (c : Civil) (y m d : ℕ) → IsInCalendar c.year c.month c.day → y ≡ c.year → m ≡ c.month → d ≡ c.day → (m ≡ 2 → d ≡ 29 → ⊥) → clipped_day_at (y + 1) m d ≡ year_on c
unfolding year_on clipped_day_at
year_plain c y m d h ey em ed other =
    let fits = month_by c.year c.month c.day (nat_eq c.month 2) refl h.high_day (λ a b. other (em ∙ a) (ed ∙ b)) in
    let kept : min c.day (month_length (c.year + 1) c.month) ≡ c.day = omega arith in
    rw (ey, em, ed, kept) (by (nat_eq c.month 2) (nat_eq c.day 29) refl refl)
  where
    by : (a b : Bool) → nat_eq c.month 2 ≡ a → nat_eq c.day 29 ≡ b → day_at (c.year + 1) c.month c.day ≡ cond (a && b) (day_at (c.year + 1) 3 1) (day_at (c.year + 1) c.month c.day)
    by true true e f = absurd (other (let two : c.month ≡ 2 = grind (arith, nat_tests) in em ∙ two) (let last : c.day ≡ 29 = grind (arith, nat_tests) in ed ∙ last))
    by true false e f = refl
    by false b e f = refl
