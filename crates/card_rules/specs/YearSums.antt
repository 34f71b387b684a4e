-- The totals of the calendar year on a statement are those of its periods (12 CFR 1026.7(b)(6)(ii), (iii)), in the book of every day, for
-- all lists of posts. Days are day numbers, amounts cents.
use Rattle.std.specs.Prelude.{ℕ, pos, ◌+◌, ◌≡◌, ◌≢◌, ◌≤◌, List, Some, ◌+ℤ◌}
use Rattle.card_events.specs.Civil.{date_of}
use Rattle.card_events.specs.History.{anchor_of}
use Rattle.card_events.specs.Range.{last_request_day}
use Rattle.card_events.specs.SharedRows.{SharedRows}
use Rattle.card_events.specs.declared.kept.Kept.{Kept}
use Rattle.card_model.specs.CycleDays.{IsOpening}
use Rattle.card_model.specs.Cycles.{Cycle, IssuedRow, Sheet, amounts_sum}
use Rattle.card_model.specs.Fees.{fees_sum}
use Rattle.card_model.specs.Folds.{book, cycle_at}
use Rattle.card_model.specs.Sheets.{sheet_of}

-- the calendar year in which a cycle closed
abbrev pub closing_year : Cycle → ℕ
closing_year c = (date_of c.closing).year

-- the year's totals on a statement are those of its own period alone
pub record AreItsOwn (c : Cycle) (s : Sheet) : Type 0 where
  pub fees : s.fees_year ≡ pos (fees_sum c.fees)
  pub interest : s.interest_year ≡ pos (amounts_sum c.interest)

-- or those of the statement before, and of its own period
pub record AddItsOwn (before : Sheet) (c : Cycle) (s : Sheet) : Type 0 where
  pub fees : s.fees_year ≡ before.fees_year +ℤ pos (fees_sum c.fees)
  pub interest : s.interest_year ≡ before.interest_year +ℤ pos (amounts_sum c.interest)

-- The first statement of an account has the totals of its own period. Each later one has those of the statement before with its own
-- added, where both closed in one calendar year, and else its own alone. `issue` and `other` are any days of issue
pub record YearsAddUp : Type 0 where
  pub first :
      (history : List Kept) (issued : List IssuedRow) (shared : SharedRows) (day issue : ℕ) (c : Cycle)
      → cycle_at 1 (book history issued shared day).cycles ≡ Some c → AreItsOwn c (sheet_of history issued shared issue c)
  pub same_year :
      (history : List Kept) (issued : List IssuedRow) (shared : SharedRows) (day issue other k : ℕ) (c d : Cycle)
      → cycle_at k (book history issued shared day).cycles ≡ Some c → cycle_at (k + 1) (book history issued shared day).cycles ≡ Some d
      → closing_year d ≡ closing_year c
      → AddItsOwn (sheet_of history issued shared other c) d (sheet_of history issued shared issue d)
  pub new_year :
      (history : List Kept) (issued : List IssuedRow) (shared : SharedRows) (day issue k : ℕ) (c d : Cycle) → IsOpening (anchor_of history) → day ≤ last_request_day
      → cycle_at k (book history issued shared day).cycles ≡ Some c → cycle_at (k + 1) (book history issued shared day).cycles ≡ Some d
      → closing_year d ≢ closing_year c
      → AreItsOwn d (sheet_of history issued shared issue d)
