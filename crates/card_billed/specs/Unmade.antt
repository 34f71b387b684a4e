-- Rows that accepted Bills issue and that aren't made yet. Days are day numbers.
use Rattle.std.specs.Prelude.{◌≡◌, ◌<◌, ⊤, List, [], ◌∷◌, ◌++◌, Some}
use Rattle.card_events.specs.Billing.{closing}
use Rattle.card_events.specs.History.{anchor_of, at_number}
use Rattle.card_events.specs.SharedRows.{SharedRows}
use Rattle.card_events.specs.declared.kept.Kept.{Kept}
use Rattle.card_events.specs.declared.post.Post.TheVariants as post
use Rattle.card_model.specs.Cycles.{IssuedRow}
use Rattle.card_model.specs.Folds.{book, cycle_at}
use Rattle.card_model.specs.Sheets.{sheet_of}

-- The row that a Bill among these posts issues behind other rows: it is of the Bill's cycle and day, the cycle closed before that day,
-- and it says what the book of that closing has of the cycle
pub record IsUnmade (history : List Kept) (made : List IssuedRow) (shared : SharedRows) (r : IssuedRow) : Type 0 where
  pub bill : Kept
  pub there : at_number r.bill history ≡ Some bill
  pub post : bill.post ≡ post.Bill r.cycle
  pub day : bill.accepted ≡ r.day
  pub closed : closing (anchor_of history) r.cycle < r.day
  pub dated : r.statement.closing ≡ closing (anchor_of history) r.cycle
  pub statement : cycle_at r.cycle (book history made shared (closing (anchor_of history) r.cycle)).cycles ≡ Some r.statement
  pub sheet : r.sheet ≡ sheet_of history made shared r.day r.statement

-- so is each of these rows, behind the rows before it
unfoldable pub AreUnmade : List Kept → List IssuedRow → SharedRows → List IssuedRow → Type 0
AreUnmade history made shared [] = ⊤
AreUnmade history made shared (r ∷ rest) = IsUnmade history made shared r × AreUnmade history (made ++ r ∷ []) shared rest
