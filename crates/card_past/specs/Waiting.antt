-- An account with rows that aren't made yet. Days are day numbers.
use Rattle.std.specs.Prelude.{ℕ, ◌+◌, ◌≡◌, ◌≤◌, List, ◌∷◌, ◌++◌}
use Rattle.std.specs.List.{All}
use Rattle.card_billed.specs.Unmade.{AreUnmade}
use Rattle.card_book.specs.Stands.{steps_over}
use Rattle.card_daily.specs.Given.{Given}
use Rattle.card_events.specs.History.{anchor_of}
use Rattle.card_events.specs.Range.{last_request_day}
use Rattle.card_events.specs.SharedRows.{SharedRows}
use Rattle.card_events.specs.declared.kept.Kept.{Kept}
use Rattle.card_model.specs.CycleDays.{IsOpening}
use Rattle.card_model.specs.Cycles.{IssuedRow}
use Rattle.card_past.specs.Foldings.{Folding, IsFolding}

-- what the fold of these posts is given with these rows
abbrev pub given_by : List Kept → List IssuedRow → SharedRows → Given
given_by history rows shared = record { history = history; issued = rows; shared = shared }

-- a folding stands for an account with all its rows where it does for one with those that are made, and the other way round
pub record StandsWithBoth (history : List Kept) (made rest : List IssuedRow) (shared : SharedRows) (f : Folding) : Type 0 where
  pub without : IsFolding (given_by history (made ++ rest) shared) f → IsFolding (given_by history made shared) f
  pub with_them : IsFolding (given_by history made shared) f → IsFolding (given_by history (made ++ rest) shared) f

-- so it is up to the day of the first row that isn't made
abbrev pub UnmadeRowsLeaveIt : Type 0
UnmadeRowsLeaveIt =
    (history : List Kept) (made rest : List IssuedRow) (shared : SharedRows) (f : Folding) → IsOpening (anchor_of history) → AreUnmade history made shared rest → All (λ r. f.reached ≤ r.day) rest
    → StandsWithBoth history made rest shared f

-- A fold to the day of the first of them without them, and from there on with all, take the steps of one fold with all
abbrev pub StepsAreThoseOfAll : Type 0
StepsAreThoseOfAll =
    (history : List Kept) (made rest : List IssuedRow) (shared : SharedRows) (r : IssuedRow) (first to : ℕ) → IsOpening (anchor_of history) → AreUnmade history made shared (r ∷ rest)
    → All (λ x. r.day ≤ x.day) (r ∷ rest) → first ≤ r.day + 1 → r.day ≤ to → to ≤ last_request_day
    → steps_over (given_by history made shared) r.day first + steps_over (given_by history (made ++ r ∷ rest) shared) to (r.day + 1) ≡ steps_over (given_by history (made ++ r ∷ rest) shared) to first
