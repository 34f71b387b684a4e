-- The number of a date is the calendar's, and each day has one date.
use Rattle.std.proofs.Common.{◌≡◌, ℕ, zero, suc, ◌+◌, ◌-◌, ◌≤◌, refl, ap, arith, pos}
use Rattle.jiff_core.specs.Calendar.{days_in_year, days_from_civil, day_count}
use Rattle.jiff_core.proofs.CalendarLemmas.{days_from_civil-day_count, day_count-epoch, day_count-next_year, day_count-day_of_year}
use Rattle.jiff_core.proofs.MarchLemmas.{days_in_year-leap_day, march_days-suc}
use Rattle.jiff_core.specs.March.{march_days}
use Rattle.jiff_core.specs.Calendar as library
use Rattle.jiff_core.proofs.SignedLemmas.{signed_arith}
use Rattle.card_events.specs.Civil.{month_length, leap_years, days_before_year, days_of_months, day_at}

leaps_grow : (k : ℕ) → 477 ≤ leap_years (1969 + k)
leaps_grow zero = omega arith
leaps_grow (suc k) =
    let next : suc (1969 + k) ≡ 1969 + suc k = omega arith in
    let more = march_days-suc (1969 + k) in
    rw (← next) (omega (arith, leaps_grow k))

-- the days before a year, counted as the library counts years that begin in March
march : (y n : ℕ) → y - 1 ≡ n → 1969 ≤ n → days_before_year y + 719_162 ≡ march_days n
unfolding days_before_year
march y n e low =
    let back : 1969 + (n - 1969) ≡ n = omega arith in
    let enough = leaps_grow (n - 1969) in
    rw e (omega (arith, rw back at enough))

-- one year on
pub days_before_year-next : (k : ℕ) → days_before_year (1970 + suc k) ≡ days_before_year (1970 + k) + days_in_year (pos (1970 + k))
days_before_year-next k =
    let here = march (1970 + k) (1969 + k) (omega arith) (omega arith) in
    let there = march (1970 + suc k) (suc (1969 + k)) (omega arith) (omega arith) in
    let year : suc (1969 + k) ≡ 1970 + k = omega arith in
    let next = march_days-suc (1969 + k) in
    omega (arith, rw year at next, days_in_year-leap_day (pos (1970 + k)))

pub year_starts : (k : ℕ) → day_count (pos (1970 + k)) 1 1 ≡ 4_371_953 + days_before_year (1970 + k)
year_starts zero = unfold days_before_year in day_count-epoch
year_starts (suc k) =
    omega (arith, year_starts k, days_before_year-next k, day_count-next_year (pos (1970 + k)) (pos (1970 + suc k)) (omega (arith, signed_arith)) (omega (arith, signed_arith)))

-- the months of a year
pub months_same : (y m : ℕ) → days_of_months y m ≡ library.days_of_months (pos y) m
unfolding days_of_months library.days_of_months
months_same y zero = refl
months_same y (suc m) = ap (λ n. n + month_length y (suc m)) (months_same y m)

-- the number of a date is its place in the library's count
pub count_is : (y m d : ℕ) → 1970 ≤ y → 1 ≤ d → day_count (pos y) m d ≡ 4_371_953 + day_at y m d
unfolding day_at
count_is y m d low day =
    let back : 1970 + (y - 1970) ≡ y = omega arith in
    let start = year_starts (y - 1970) in
    omega (arith, rw back at start, day_count-day_of_year (pos y) m d day, months_same y (m - 1))

pub number_is : (y m d : ℕ) → 1970 ≤ y → 1 ≤ d → days_from_civil (pos y) m d ≡ pos (day_at y m d)
number_is y m d low day = omega (arith, signed_arith, count_is y m d low day, days_from_civil-day_count (pos y) m d)
