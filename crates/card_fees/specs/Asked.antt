-- What the code is given of a closed cycle (12 CFR 1026.5(b)(2)(ii), .54(a)(1)). Days are effective days, amounts cents.
use Rattle.std.specs.Prelude.{ℕ, ◌+◌, ◌<◌, ◌≤◌, Bool, false, ◌&&◌, nat_le, nat_lt, Option, Some, None}
use Rattle.card_events.specs.Range.{last_calendar_day}
use Rattle.card_model.specs.declared.due_cycle.DueCycle.{DueCycle}

-- it closed before its due date, which is there
pub record IsInCalendar (c : DueCycle) : Type 0 where
  pub closed : c.closing < c.due
  pub last : c.due ≤ last_calendar_day

-- a statement issued on a day, before today, and at least 21 days before the due date
abbrev pub is_due_by : ℕ → ℕ → Option ℕ → Bool
is_due_by due today None = false
is_due_by due today (Some day) = nat_lt day today && nat_le (day + 21) due
