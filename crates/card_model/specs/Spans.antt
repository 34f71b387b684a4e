-- Spans: so many days without a break, and the day that ends them.
use Rattle.std.specs.Prelude.{ℕ, ◌+◌, ◌-◌, ◌≡◌, ◌≤◌, ◌<◌, Bool, true, false, ◌&&◌, not, nat_le, if◌then◌else◌, ◌⊎◌, List}
use Rattle.card_events.specs.Range.{last_calendar_day}
use Rattle.card_events.specs.History.{anchor_of}
use Rattle.card_events.specs.SharedRows.{SharedRows}
use Rattle.card_events.specs.declared.kept.Kept.{Kept}
use Rattle.card_model.specs.Breaks.{breaks_among}
use Rattle.card_model.specs.Cuts.{is_break_by}
use Rattle.card_model.specs.CycleDays.{IsOpening}
use Rattle.card_model.specs.Cycles.{IssuedRow}

-- the steps of a fold from a day to another: one for each break day among them, and one for the last day where it is none
abbrev pub steps_among : (ℕ → Bool) → ℕ → ℕ → ℕ
steps_among breaks first to = breaks_among breaks first (to + 1 - first) + (if nat_le first to && not (breaks to) then 1 else 0)

-- so many days from the first on have no break, and the day behind them has one or is the last
pub record IsSpan (breaks : ℕ → Bool) (first days to : ℕ) : Type 0 where
  pub quiet : (i : ℕ) → i < days → breaks (first + i) ≡ false
  pub within : first + days ≤ to
  pub ends : (breaks (first + days) ≡ true) ⊎ (first + days ≡ to)

-- a span with the day that ends it is one step, and behind the last day there is none
pub record SpansAreSteps : Type 0 where
  pub one : (breaks : ℕ → Bool) (first days to : ℕ) → IsSpan breaks first days to → steps_among breaks first to ≡ 1 + steps_among breaks (first + days + 1) to
  pub none : (breaks : ℕ → Bool) (first to : ℕ) → to < first → steps_among breaks first to ≡ 0

-- Behind days without a break, the penalties of the book before them tell of a day what those of every later book tell of it
abbrev pub SpansAreTold : Type 0
SpansAreTold =
    (history : List Kept) (issued : List IssuedRow) (shared : SharedRows) (first days later : ℕ) → IsOpening (anchor_of history) → first + days ≤ later → later ≤ last_calendar_day
    → ((i : ℕ) → i < days → is_break_by history issued shared (first - 1) (first + i) ≡ false)
    → is_break_by history issued shared later (first + days) ≡ is_break_by history issued shared (first - 1) (first + days)
