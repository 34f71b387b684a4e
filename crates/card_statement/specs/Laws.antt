-- Laws of statements, for all lists of posts.
use Rattle.std.specs.Prelude.{ℕ, ◌≡◌, ◌-◌, ◌≤◌, ◌^◌, List, Some, pos, ◌+ℤ◌}
use Rattle.std.specs.List.{All, Contains}
use Rattle.card_bounds.specs.Bounds.{IsLimited}
use Rattle.card_events.specs.History.{anchor_of}
use Rattle.card_events.specs.Range.{last_calendar_day}
use Rattle.card_events.specs.SharedRows.{SharedRows}
use Rattle.card_events.specs.declared.kept.Kept.{Kept}
use Rattle.card_model.specs.Accepted.{HasFewSegments}
use Rattle.card_model.specs.Closing.{previous_of}
use Rattle.card_model.specs.CycleDays.{IsOpening}
use Rattle.card_model.specs.Cycles.{Cycle, IssuedRow, Sheet, amounts_sum}
use Rattle.card_model.specs.Folds.{book, cycle_at}
use Rattle.card_model.specs.declared.lines.RateLine.{RateLine}
use Rattle.card_statement.specs.Gathering.{sizes}
use Rattle.card_model.specs.Sheets.{cycle_entries, moves_sum, sheet_of}

-- the lines from the previous balance to the interest add up to the new balance
abbrev pub AddsUp : Cycle → Sheet → Type 0
AddsUp c s = s.previous +ℤ s.corrections +ℤ moves_sum s.moves +ℤ pos (amounts_sum c.interest) ≡ c.new_balance

-- so they do on the sheet of every closed cycle in the book of every day, whatever was issued, and on whichever day this one
-- is
abbrev pub StatementsAddUp : Type 0
StatementsAddUp =
    (history : List Kept) (issued : List IssuedRow) (shared : SharedRows) (day k issue : ℕ) (c : Cycle)
    → cycle_at k (book history issued shared day).cycles ≡ Some c → AddsUp c (sheet_of history issued shared issue c)

-- ---- rates of what is owed
-- an amount has the line of the rate of its segment
pub record HasRate (lines : List RateLine) (amount : ℕ × ℕ) : Type 0 where
  pub line : RateLine
  pub there : Contains lines line
  pub its_own : line.segment ≡ amount.0

-- On the sheet of every closed cycle in the book of every day of the calendar, each amount that is owed at the closing has one
abbrev pub ClosingsHaveRates : Type 0
ClosingsHaveRates =
    (history : List Kept) (issued : List IssuedRow) (shared : SharedRows) (day k issue : ℕ) (c : Cycle) → IsOpening (anchor_of history) → day ≤ last_calendar_day
    → cycle_at k (book history issued shared day).cycles ≡ Some c
    → All (HasRate (sheet_of history issued shared issue c).rates) (sheet_of history issued shared issue c).closing

-- ---- a cycle at its closing
-- The book of the closing has the cycle, at its number; the cycle goes on from what was owed at the closing before; and what
-- its entries move together is small, within the limits
pub record StandsAtClosing (history : List Kept) (issued : List IssuedRow) (shared : SharedRows) (c : Cycle) : Type 0 where
  pub there : cycle_at c.number (book history issued shared c.closing).cycles ≡ Some c
  pub previous : c.previous ≡ previous_of (cycle_at (c.number - 1) (book history issued shared c.closing).cycles)
  pub small : (posts : ℕ) → IsLimited posts history shared c.closing → posts ≤ 200000 → HasFewSegments history → sizes (cycle_entries c (book history issued shared c.closing)) ≤ 10 ^ 17

-- so does every cycle that is closed in the book of some day
abbrev pub CyclesStandAtClosing : Type 0
CyclesStandAtClosing =
    (history : List Kept) (issued : List IssuedRow) (shared : SharedRows) (day k : ℕ) (c : Cycle)
    → cycle_at k (book history issued shared day).cycles ≡ Some c → StandsAtClosing history issued shared c
