-- What the code computes with: months by number, twelve a year, and the greatest due date before a day.
use Rattle.std.specs.Prelude.{◌≡◌, ◌<◌, true, false, Option, Some, None, ℕ, ◌+◌, ◌-◌, ◌*◌, ◌/◌, ◌%◌, nat_lt, nat_le, if◌then◌else◌}
use Rattle.card_events.specs.declared.anchor.Anchor.{Anchor}
use Rattle.card_events.specs.Business.{is_due}
use Rattle.card_events.specs.Civil.{Civil, day_at, date_of}

-- the number of the month of a date
abbrev pub month_number : Civil → ℕ
month_number c = 12 * c.year + (c.month - 1)

-- the day of a month
unfoldable pub day_in_month : ℕ → ℕ → ℕ
day_in_month i d = day_at (i / 12) (i % 12 + 1) d

-- the first month whose day with this number doesn't lie before the date
abbrev pub month_from : ℕ → Civil → ℕ
month_from c date = month_number date + (if nat_lt c date.day then 1 else 0)

-- the month of the first closing
unfoldable pub first_month : Anchor → ℕ
first_month a = month_from a.close_day (date_of a.opened)

-- how many months after that of a closing its payment is due
unfoldable pub due_shift : ℕ → ℕ
due_shift close_day = if nat_le close_day 4 then 0 else 1

-- the greatest due date before a day, or none where there is none
abbrev pub IsLastDue : Anchor → ℕ → Option ℕ → Type 0
IsLastDue a day None = (x : ℕ) → x < day → is_due a x ≡ false
IsLastDue a day (Some due) = (due < day) × (is_due a due ≡ true) × ((x : ℕ) → due < x → x < day → is_due a x ≡ false)
