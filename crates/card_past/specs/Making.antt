-- Making the rows that aren't made, one after the other. Days are day numbers.
use Rattle.std.specs.Prelude.{ℕ, ◌≡◌, ◌≤◌, List, [], ◌∷◌, ◌++◌, map, Option, None}
use Rattle.std.specs.List.{All}
use Rattle.card_billed.specs.Unmade.{AreUnmade}
use Rattle.card_book.specs.Stands.{Summary, day_to_fold, steps_over}
use Rattle.card_events.specs.History.{anchor_of}
use Rattle.card_events.specs.SharedRows.{SharedRows}
use Rattle.card_events.specs.declared.kept.Kept.{Kept}
use Rattle.card_model.specs.Cycles.{IssuedRow}
use Rattle.card_model.specs.Refusals.{Lists}
use Rattle.card_past.specs.Owes.{AreLater}
use Rattle.card_past.specs.Pasts.{AreSame}
use Rattle.card_past.specs.Foldings.{Folding, IsFolding, day_of, given_of}
use Rattle.card_past.specs.Waiting.{given_by}
use Rattle.card_past.specs.declared.past.Past.{Past}

-- folded to a day, without an eve
abbrev pub folded_at : ℕ → Option Summary → Past → Folding
folded_at reached book past = record { reached = reached; book = book; past = past; eve = None }

-- of all rows of an account these are left to make, behind those that are made, and the account is folded to a day up to that of the
-- first of them
pub record AreLeft (shared : SharedRows) (history : List Kept) (all made rest : List IssuedRow) (f : Folding) : Type 0 where
  pub rows : all ≡ made ++ rest
  pub unmade : AreUnmade history made shared rest
  pub later : AreLater (anchor_of history).opened f.reached rest
  pub folding : IsFolding (given_by history made shared) f

-- the first of them is that of the Bill with a number
pub record IsNext (shared : SharedRows) (history : List Kept) (all made : List IssuedRow) (bill : ℕ) (book : Option Summary) (past : Past) : Type 0 where
  pub reached : ℕ
  pub row : IssuedRow
  pub rest : List IssuedRow
  pub left : AreLeft shared history all made (row ∷ rest) (folded_at reached book past)
  pub number : row.bill ≡ bill

-- after it was made, the others are left, and the account is folded to its day
pub record IsMade (shared : SharedRows) (history : List Kept) (all old new : List IssuedRow) (r : IssuedRow) (rest : List IssuedRow) (book : Option Summary) (past : Past) : Type 0 where
  pub rows : new ≡ old ++ r ∷ []
  pub left : AreLeft shared history all new rest (folded_at r.day book past)

-- the rows of these Bills are left to make, in their order, and all of them are of days up to one
pub record AreToMake (shared : SharedRows) (history : List Kept) (all made : List IssuedRow) (bills : List ℕ) (to : ℕ) (book : Option Summary) (past : Past) : Type 0 where
  pub reached : ℕ
  pub rest : List IssuedRow
  pub left : AreLeft shared history all made rest (folded_at reached book past)
  pub numbers : bills ≡ map (λ r. r.bill) rest
  pub within : All (λ r. r.day ≤ to) rest

-- so they are to a fold of a copy of what is recorded
abbrev pub AreToMakeBeside : SharedRows → List Kept → List IssuedRow → List IssuedRow → List ℕ → ℕ → Option Summary → Past → Type 0
AreToMakeBeside shared history all made bills to book past = (copied : Past) → AreSame past copied → AreToMake shared history all made bills to book copied

-- the steps that a fold over all rows takes from there on
abbrev pub steps_on : SharedRows → List Kept → List IssuedRow → ℕ → Option Summary → ℕ
steps_on shared history all to book = steps_over (given_by history all shared) to (day_to_fold (given_by history all shared) (day_of book))

-- Where none is left, what is made is all that was issued, and what is kept stands for the account
pub record IsSettled (shared : SharedRows) (lists : Lists) (made : List IssuedRow) (f : Folding) : Type 0 where
  pub reached : ℕ
  pub rows : made ≡ lists.issued
  pub folding : IsFolding (given_of lists shared) (folded_at reached f.book f.past)

abbrev pub NoneIsLeft : Type 0
NoneIsLeft =
    (shared : SharedRows) (lists : Lists) (made : List IssuedRow) (today : ℕ) (f : Folding) → AreToMake shared lists.posts lists.issued made [] today f.book f.past → IsSettled shared lists made f
