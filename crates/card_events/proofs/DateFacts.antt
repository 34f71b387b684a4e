-- The dates from 2011-01-01 to 2102-12-31 and their days.
use borrow.Author.Differences.{up, down}
use Rattle.std.proofs.Common.{◌≡◌, ℕ, ◌<◌, ◌≤◌, true, refl, sym, ap, arith, ℤ, pos, negsuc, ◌⊎◌, inl, inr}
use Rattle.std.proofs.lemmas.Bool.{and_parts, leb-true, cases_lt}
use Rattle.std.proofs.lemmas.Bool.Decides.{nat_tests}
use Rattle.jiff_core.specs.Calendar.{days_from_civil, IsCivilDate}
use Rattle.jiff_core.proofs.CalendarLemmas.{day_count-lt_year, day_count-later_year, days_from_civil-day_count}
use Rattle.jiff_core.proofs.SignedLemmas.{signed_arith}
use Rattle.card_events.specs.Civil.{month_length, days_before_year, days_of_months, day_at, date_of, is_date, IsInCalendar}
use Rattle.card_events.proofs.Counts.{count_is, number_is}
use Rattle.card_events.proofs.Dates.{HasDate, date_of-has, date_of-is}
use Rattle.card_events.specs.Range.{last_calendar_day, first_calendar_day}

day_2011 : day_at 2011 1 1 ≡ first_calendar_day
unfolding day_at days_before_year days_of_months
day_2011 = refl

pub day_2103 : day_at 2103 1 1 ≡ 48_577
unfolding day_at days_before_year days_of_months
day_2103 = refl

day_1970 : day_at 1970 1 1 ≡ 0
unfolding day_at days_before_year days_of_months
day_1970 = refl

day_2301 : day_at 2301 1 1 ≡ 120_895
unfolding day_at days_before_year days_of_months
day_2301 = refl

day_2400 : day_at 2400 12 31 ≡ 157_419
unfolding day_at days_before_year days_of_months
day_2400 = refl

pub in_calendar : (y m d : ℕ) → is_date y m d ≡ true → IsInCalendar y m d
in_calendar y m d is =
    let a = and_parts _ _ is in
    let b = and_parts _ _ a.1 in
    let e = and_parts _ _ b.1 in
    let f = and_parts _ _ e.1 in
    let g = and_parts _ _ f.1 in
    record {
      low_year = leb-true _ _ a.0;
      high_year = leb-true _ _ b.0;
      low_month = leb-true _ _ e.0;
      high_month = leb-true _ _ f.0;
      low_day = leb-true _ _ g.0;
      high_day = leb-true _ _ g.1;
    }

pub from_calendar : (y m d : ℕ) → IsInCalendar y m d → is_date y m d ≡ true
from_calendar y m d h =
    let a = h.low_year in let b = h.high_year in let e = h.low_month in let f = h.high_month in let g = h.low_day in let i = h.high_day in
    grind (arith, nat_tests)

civil_date : (y m d : ℕ) → y ≤ 9999 → 1 ≤ m → m ≤ 12 → 1 ≤ d → d ≤ month_length y m → IsCivilDate (pos y) m d
civil_date y m d a b e f g = ((omega (arith, signed_arith), omega (arith, signed_arith)), (b, e), (f, g))

-- a date before another year lies before its first day
pub before_year : (y m d z : ℕ) → 1970 ≤ y → y ≤ 9999 → 1 ≤ m → m ≤ 12 → 1 ≤ d → d ≤ month_length y m → y < z → day_at y m d < day_at z 1 1
before_year y m d z low high m1 m2 d1 d2 less =
    omega (arith, day_count-lt_year (pos y) m d (pos z) 1 1 (civil_date y m d high m1 m2 d1 d2) (omega arith) (omega (arith, signed_arith)), count_is y m d low d1, count_is z 1 1 (omega arith) (omega arith))

first_of_year : (u v m d : ℕ) → u ≡ v → day_at u 1 1 ≤ day_at v m d
unfolding day_at days_of_months
first_of_year u v m d e = rw e (omega arith)

-- and a date of a later year, or of this one, doesn't
pub after_first : (y m d z : ℕ) → 1970 ≤ z → z ≤ y → 1 ≤ d → day_at z 1 1 ≤ day_at y m d
after_first y m d z low less d1 = by (cases_lt z y)
  where
    by : (z < y) ⊎ (y ≤ z) → day_at z 1 1 ≤ day_at y m d
    by (inl l) = omega (arith, first_of_year y y m d refl, day_count-later_year (pos z) (pos y) (omega (arith, signed_arith)) (omega (arith, signed_arith)), count_is z 1 1 low (omega arith), count_is y 1 1 (omega arith) (omega arith))
    by (inr l) = first_of_year z y m d (omega arith)

-- ---- the laws
pub day_at-date_of : (n : ℕ) → n < 133_000 → day_at (date_of n).year (date_of n).month (date_of n).day ≡ n
day_at-date_of n l = (date_of-has n l).number

pub has_date : (y m d : ℕ) → 1970 ≤ y → y ≤ 2400 → 1 ≤ m → m ≤ 12 → 1 ≤ d → d ≤ month_length y m → HasDate (day_at y m d) (record { year = y; month = m; day = d })
has_date y m d y1 y2 m1 m2 d1 d2 = record {
  number = refl;
  year_low = y1;
  year_high = y2;
  month_low = m1;
  month_high = m2;
  day_low = d1;
  day_high = d2;
}

pub date_of-day_at : (y m d : ℕ) → 1970 ≤ y → y ≤ 2300 → 1 ≤ m → m ≤ 12 → 1 ≤ d → d ≤ month_length y m → date_of (day_at y m d) ≡ record { year = y; month = m; day = d }
date_of-day_at y m d y1 y2 m1 m2 d1 d2 =
    date_of-is (day_at y m d) (record { year = y; month = m; day = d }) (omega (arith, before_year y m d 2301 y1 (omega arith) m1 m2 d1 d2 (omega arith), day_2301)) (has_date y m d y1 (omega arith) m1 m2 d1 d2)

-- the numbers of the calendar's dates
pub day_at-range : (y m d : ℕ) → is_date y m d ≡ true → (first_calendar_day ≤ day_at y m d) × (day_at y m d ≤ last_calendar_day)
day_at-range y m d is =
    let h = in_calendar y m d is in
    let a = after_first y m d 2011 (omega arith) h.low_year h.low_day in
    let b = before_year y m d 2103 (omega (arith, h.low_year)) (omega (arith, h.high_year)) h.low_month h.high_month h.low_day h.high_day (omega (arith, h.high_year)) in
    (omega (arith, day_2011), omega (arith, day_2103))

pub date_of-in_calendar : (n : ℕ) → first_calendar_day ≤ n → n ≤ last_calendar_day → IsInCalendar (date_of n).year (date_of n).month (date_of n).day
date_of-in_calendar n low high =
    let h = date_of-has n (omega arith) in
    let not_early : ¬ ((date_of n).year < 2011) = λ l. omega (arith, before_year (date_of n).year (date_of n).month (date_of n).day 2011 h.year_low (omega (arith, h.year_high)) h.month_low h.month_high h.day_low h.day_high l, day_2011, h.number) in
    let not_late : ¬ (2103 ≤ (date_of n).year) = λ l. omega (arith, after_first (date_of n).year (date_of n).month (date_of n).day 2103 (omega arith) l h.day_low, day_2103, h.number) in
    record {
      low_year = omega arith;
      high_year = omega arith;
      low_month = h.month_low;
      high_month = h.month_high;
      low_day = h.day_low;
      high_day = h.day_high;
    }

-- ---- the library's dates
pub record IsDateOf (n : ℕ) (y : ℤ) (m d : ℕ) : Type 0 where
  pub year : y ≡ pos (date_of n).year
  pub month : m ≡ (date_of n).month
  pub day : d ≡ (date_of n).day

-- a date of the library with a number from 0 on is the date of that day
pub library_date : (y : ℤ) (m d n : ℕ) → n < 133_000 → IsCivilDate y m d → days_from_civil y m d ≡ pos n → IsDateOf n y m d
library_date (pos y) m d n l a e =
    let count = days_from_civil-day_count (pos y) m d in
    let first = count_is 1970 1 1 (omega arith) (omega arith) in
    let last = count_is 2401 1 1 (omega arith) (omega arith) in
    let low : ¬ (y < 1970) = λ less. omega (arith, signed_arith, day_count-lt_year (pos y) m d (pos 1970) 1 1 a (omega arith) (omega (arith, signed_arith)), day_1970, ap up e, ap down e) in
    let high : ¬ (2400 < y) = λ more. omega (arith, signed_arith, day_count-lt_year (pos 2400) 12 31 (pos y) m d (civil_date 2400 12 31 (omega arith) (omega arith) (omega arith) (omega arith) (omega arith)) a.2.0 (omega (arith, signed_arith)), day_2400, count_is 2400 12 31 (omega arith) (omega arith), ap up e, ap down e) in
    let y1 : 1970 ≤ y = omega arith in
    let y2 : y ≤ 2400 = omega arith in
    let number : day_at y m d ≡ n = omega (arith, signed_arith, number_is y m d y1 a.2.0, ap up e, ap down e, ap up (number_is y m d y1 a.2.0), ap down (number_is y m d y1 a.2.0)) in
    let is = date_of-is n (record { year = y; month = m; day = d }) l (record { number = number; year_low = y1; year_high = y2; month_low = a.1.0; month_high = a.1.1; day_low = a.2.0; day_high = a.2.1 }) in
    record { year = ap (λ c. pos c.year) (sym is); month = ap (λ c. c.month) (sym is); day = ap (λ c. c.day) (sym is) }
library_date (negsuc y) m d n l a e =
    absurd (omega (arith, signed_arith, day_count-lt_year (negsuc y) m d (pos 1970) 1 1 a (omega arith) (omega (arith, signed_arith)), days_from_civil-day_count (negsuc y) m d, count_is 1970 1 1 (omega arith) (omega arith), day_1970, ap up e, ap down e))
