-- The cycles of an account: days on which they close, and on which their payments are due.
use Rattle.std.specs.Prelude.{ℕ, zero, suc, ◌+◌, ◌-◌, ◌≤◌, Bool, ◌==◌, nat_le, if◌then◌else◌}
use Rattle.card_events.specs.declared.anchor.Anchor.{Anchor}
use Rattle.card_events.specs.Civil.{day_of_month, first_day}

-- a day of the month that every month has
abbrev pub IsCloseDay : ℕ → Type 0
IsCloseDay c = (1 ≤ c) × (c ≤ 28)

-- the first day from this one on with that day of the month, which comes within 31 days
abbrev pub next_on : ℕ → ℕ → ℕ
next_on c day = first_day (λ d. day_of_month d == c) 31 day

-- the k-th day with the closing day of the month, counted from the opening day; closing 0 is the day before the opening
unfoldable pub closing : Anchor → ℕ → ℕ
closing a zero = a.opened - 1
closing a (suc k) = next_on a.close_day (closing a k + 1)

-- the day of the month on which payments are due: 24 days later in the month of the closing, or 4 days earlier in the next
abbrev pub due_day_of_month : ℕ → ℕ
due_day_of_month c = if nat_le c 4 then c + 24 else c - 4

-- the due date of a closing: the first such day after it
unfoldable pub due_after : ℕ → ℕ → ℕ
due_after c day = next_on (due_day_of_month c) (day + 1)

-- the due date of a cycle's statement
abbrev pub due : Anchor → ℕ → ℕ
due a k = due_after a.close_day (closing a k)

-- how many of so many days, the first of them given, have this day of the month
unfoldable pub closings_among : ℕ → ℕ → ℕ → ℕ
closings_among c first zero = 0
closings_among c first (suc n) = closings_among c first n + (if day_of_month (first + n) == c then 1 else 0)

-- the cycle that holds a day: one more than the closings before the day
unfoldable pub cycle_of : Anchor → ℕ → ℕ
cycle_of a day = closings_among a.close_day a.opened (day - a.opened) + 1

-- a statement issued on this day is timely: its payment is due at least 21 days later
abbrev pub is_timely : Anchor → ℕ → ℕ → Bool
is_timely a k issued = nat_le (issued + 21) (due a k)
