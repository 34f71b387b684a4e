-- Civil dates. A day is its number: how many days it lies after 1970-01-01.
use Rattle.std.specs.Prelude.{ℕ, ◌≤◌, zero, suc, ◌+◌, ◌-◌, ◌*◌, ◌/◌, ◌%◌, Bool, not, ◌&&◌, ◌||◌, ◌==◌, nat_lt, nat_le, if◌then◌else◌, List, [], ◌∷◌, ◌++◌}

-- a date of the Gregorian calendar
pub record Civil : Type 0 where
  pub year : ℕ
  pub month : ℕ
  pub day : ℕ

-- every fourth year, but of the centuries only every fourth
abbrev pub is_leap : ℕ → Bool
is_leap y = (y % 4 == 0) && (not (y % 100 == 0) || (y % 400 == 0))

-- the days of a month
abbrev pub month_length : ℕ → ℕ → ℕ
month_length y m =
    if m == 2 then (if is_leap y then 29 else 28)
    else (if (m == 4) || (m == 6) || (m == 9) || (m == 11) then 30 else 31)

-- how many of the years from 1 to this one are leap years
abbrev pub leap_years : ℕ → ℕ
leap_years y = y / 4 - y / 100 + y / 400

-- the days from 1970-01-01 to the first day of a year: 365 for each year between, and one more for each leap year
unfoldable pub days_before_year : ℕ → ℕ
days_before_year y = 365 * (y - 1970) + (leap_years (y - 1) - leap_years 1969)

-- the days of the first so many months of a year
unfoldable pub days_of_months : ℕ → ℕ → ℕ
days_of_months y zero = 0
days_of_months y (suc m) = days_of_months y m + month_length y (suc m)

-- the number of the day with this date
unfoldable pub day_at : ℕ → ℕ → ℕ → ℕ
day_at y m d = days_before_year y + days_of_months y (m - 1) + (d - 1)

-- the year that holds a day: at 366 days a year it can't be an earlier one, and up to 2300 it is that one or the next
unfoldable pub year_of : ℕ → ℕ
year_of n =
    let y = 1970 + n / 366 in
    if nat_le (days_before_year (y + 1)) n then y + 1 else y

-- the date that lies so many days after the first of a month: month after month is taken off, up to so many
unfoldable pub date_in : ℕ → ℕ → ℕ → ℕ → Civil
date_in zero y m left = record { year = y; month = m; day = left + 1 }
date_in (suc more) y m left =
    let later = date_in more y (m + 1) (left - month_length y m) in
    if nat_lt left (month_length y m) then (record { year = y; month = m; day = left + 1 }) else later

-- the date of a day
unfoldable pub date_of : ℕ → Civil
date_of n = let y = year_of n in date_in 11 y 1 (n - days_before_year y)

-- the calendar has this date, and it lies from 2011-01-01 to 2102-12-31
abbrev pub is_date : ℕ → ℕ → ℕ → Bool
is_date y m d = nat_le 2011 y && (nat_le y 2102 && (nat_le 1 m && (nat_le m 12 && (nat_le 1 d && nat_le d (month_length y m)))))

-- the same, part by part
pub record IsInCalendar (y m d : ℕ) : Type 0 where
  pub low_year : 2011 ≤ y
  pub high_year : y ≤ 2102
  pub low_month : 1 ≤ m
  pub high_month : m ≤ 12
  pub low_day : 1 ≤ d
  pub high_day : d ≤ month_length y m

-- a number below 100, in two digits
abbrev pub two_digits : ℕ → List ℕ
two_digits n = (48 + n / 10) ∷ (48 + n % 10) ∷ []

-- `2024-03-01`
unfoldable pub date_text : Civil → List ℕ
date_text c = two_digits (c.year / 100) ++ two_digits (c.year % 100) ++ 45 ∷ [] ++ two_digits c.month ++ 45 ∷ [] ++ two_digits c.day

-- a day, written as its date
abbrev pub day_text : ℕ → List ℕ
day_text n = date_text (date_of n)

-- the day of the month
abbrev pub day_of_month : ℕ → ℕ
day_of_month n = (date_of n).day

-- the month after a month, and the year in which that lies
abbrev pub next_month : ℕ → ℕ
next_month m = if m == 12 then 1 else m + 1

abbrev pub year_of_next_month : ℕ → ℕ → ℕ
year_of_next_month y m = if m == 12 then y + 1 else y

-- the first day from this one on that passes, among so many; the day behind them where none does
unfoldable pub first_day : (ℕ → Bool) → ℕ → ℕ → ℕ
first_day p zero day = day
first_day p (suc more) day = let later = first_day p more (day + 1) in if p day then day else later
