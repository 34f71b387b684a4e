-- How the penalties of an account begin and end on a day (12 CFR 1026.55(b)(4)). Days are day numbers.
use Rattle.std.specs.Prelude.{ℕ, ◌+◌, ◌==◌, ◌≤◌, if◌then◌else◌, map, List, [], ◌∷◌, ◌++◌, slice_index_or, slice_set, Option, Some, None}
use Rattle.card_events.specs.Range.{last_calendar_day}
use Rattle.card_events.specs.History.{anchor_of}
use Rattle.card_model.specs.CycleDays.{HasItsDays}
use Rattle.card_model.specs.Cycles.{Cycle, Seen}
use Rattle.card_model.specs.DueDates.{cured_by}
use Rattle.card_model.specs.Payments.{sixty_days_late}
use Rattle.card_model.specs.declared.segment.Interval.{Interval}
use Rattle.card_daily.specs.Given.{Given}

-- a closed cycle with its number and days, which are there
pub record IsClosed (g : Given) (c : Cycle) : Type 0 where
  pub days : HasItsDays (anchor_of g.history) c.number c
  pub first : 1 ≤ c.number
  pub due : c.due ≤ last_calendar_day

-- the penalties after a Penalty of today: one more begins in 45 days where the account is sixty days late
abbrev pub begun_on : Seen → List Cycle → List Interval → List Interval
begun_on seen cycles penalties =
    let begun = penalties ++ record { begins = seen.day + 45; last = None } ∷ [] in
    if sixty_days_late seen cycles then begun else penalties

-- the penalties, where the one at a place has this due date for its last day if it is cured; i stands for one that isn't there
abbrev pub cured_at : Seen → List Cycle → ℕ → ℕ → Interval → List Interval → List Interval
cured_at seen cycles due which i penalties = slice_set penalties which (cured_by seen cycles due (slice_index_or penalties which i))

-- the penalties after the due date of a cycle: on the day after it, those that are cured have ended
unfoldable pub cured_on : Seen → List Cycle → Option Cycle → List Interval → List Interval
cured_on seen cycles None penalties = penalties
cured_on seen cycles (Some c) penalties = let cured = map (cured_by seen cycles c.due) penalties in if seen.day == c.due + 1 then cured else penalties
