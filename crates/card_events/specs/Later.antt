-- Six months after a day, and a year after it.
use Rattle.std.specs.Prelude.{ℕ, ◌+◌, ◌-◌, ◌&&◌, ◌==◌, nat_lt, min, if◌then◌else◌}
use Rattle.card_events.specs.Civil.{Civil, month_length, day_at, date_of}

-- the day of this date, or the last one of its month where that has no such day
unfoldable pub clipped_day_at : ℕ → ℕ → ℕ → ℕ
clipped_day_at y m d = day_at y m (min d (month_length y m))

-- the same day of the sixth month after a date, or that month's last day
unfoldable pub six_months_on : Civil → ℕ
six_months_on c = if nat_lt 6 c.month then clipped_day_at (c.year + 1) (c.month - 6) c.day else clipped_day_at c.year (c.month + 6) c.day

abbrev pub six_months_after : ℕ → ℕ
six_months_after day = six_months_on (date_of day)

-- the same day a year after a date, and March 1 after February 29
unfoldable pub year_on : Civil → ℕ
year_on c = if (c.month == 2) && (c.day == 29) then day_at (c.year + 1) 3 1 else day_at (c.year + 1) c.month c.day

abbrev pub year_after : ℕ → ℕ
year_after day = year_on (date_of day)
