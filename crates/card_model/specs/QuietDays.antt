-- Days on which nothing happens.
use Rattle.std.specs.Prelude.{ℕ, ◌+◌, ◌≡◌, ◌≤◌, false, List}
use Rattle.card_events.specs.Range.{last_calendar_day}
use Rattle.card_events.specs.History.{anchor_of, corrected}
use Rattle.card_events.specs.SharedRows.{SharedRows}
use Rattle.card_events.specs.declared.kept.Kept.{Kept}
use Rattle.card_model.specs.Books.{account_of}
use Rattle.card_model.specs.Breaks.{is_break}
use Rattle.card_model.specs.CycleDays.{IsOpening}
use Rattle.card_model.specs.Cycles.{IssuedRow}
use Rattle.card_model.specs.Folds.{book}
use Rattle.card_model.specs.declared.segment.Interval.{Interval}

-- a day that is no break day leaves the book of the day before as it was
abbrev pub QuietDaysChangeNothing : Type 0
QuietDaysChangeNothing =
    (history : List Kept) (issued : List IssuedRow) (shared : SharedRows) (penalties : List Interval) (day : ℕ) → IsOpening (anchor_of history) → day + 1 ≤ last_calendar_day
    → is_break (account_of history) (corrected (anchor_of history) shared.holidays history) issued shared.index penalties (day + 1) ≡ false
    → book history issued shared (day + 1) ≡ book history issued shared day
