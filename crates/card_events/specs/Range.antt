-- The range of days.
use Rattle.std.specs.Prelude.{ℕ, ℤ, pos, ◌≤ℤ◌}

-- the first day of the calendar: 2011-01-01, by its number since 1970-01-01
abbrev pub first_calendar_day : ℕ
first_calendar_day = 14975

-- the last day of requests: 2099-12-31
abbrev pub last_request_day : ℕ
last_request_day = 47481

-- the last day from which later days are reckoned: 2100-12-31
abbrev pub last_reckoned_day : ℕ
last_reckoned_day = 47846

-- the last day of the calendar: 2102-12-31
abbrev pub last_calendar_day : ℕ
last_calendar_day = 48576

-- a day of the calendar
abbrev pub IsDayNumber : ℤ → Type 0
IsDayNumber n = (pos first_calendar_day ≤ℤ n) × (n ≤ℤ pos last_calendar_day)
