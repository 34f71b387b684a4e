-- Statements of closed cycles.
use Rattle.std.specs.Prelude.{ℕ, ◌≡◌, ◌≤◌, Some}
use Rattle.card_events.specs.Range.{last_request_day}
use Rattle.card_model.specs.Cycles.{Cycle}
use Rattle.card_model.specs.Folds.{cycle_at}
use Rattle.card_model.specs.Sheets.{sheet_of}
use Rattle.card_daily.specs.Given.{Given, book_on}
use Rattle.card_daily.specs.declared.track.Statement.{Statement}

-- the cycle is closed in the book of some day, at its number
pub record IsClosedCycle (g : Given) (c : Cycle) : Type 0 where
  pub day : ℕ
  pub last : day ≤ last_request_day
  pub there : cycle_at c.number (book_on g day).cycles ≡ Some c

-- the statement of a cycle, issued on a day, with what it shows beside it (12 CFR 1026.7(b))
abbrev pub statement_on : Given → ℕ → Cycle → Statement
statement_on g issue c = record { cycle = c; issue = issue; sheet = sheet_of g.history g.issued g.shared issue c }
