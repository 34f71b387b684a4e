-- The same day of a later month, with months counted one after another.
use Rattle.std.specs.Prelude.{ℕ, ◌+◌, ◌-◌, ◌*◌, ◌/◌, ◌%◌, min}
use Rattle.card_events.specs.Civil.{Civil, date_of, day_at, month_length}

-- the day with this number in a month, or the last one where it has no such day. Month 0 is January of year 0, month 12 the next
abbrev pub day_in : ℕ → ℕ → ℕ
day_in month d = day_at (month / 12) (month % 12 + 1) (min d (month_length (month / 12) (month % 12 + 1)))

-- the month of a date
abbrev pub month_of : Civil → ℕ
month_of c = 12 * c.year + (c.month - 1)

-- the same day of the month that lies so many months later
abbrev pub months_after : ℕ → ℕ → ℕ
months_after n day = day_in (month_of (date_of day) + n) (date_of day).day
