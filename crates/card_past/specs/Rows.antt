-- The row that a Bill issues. Days are day numbers.
use Rattle.std.specs.Prelude.{ℕ, List, [], ◌∷◌, Option, Some, None}
use Rattle.card_events.specs.declared.post.Post.{Post}
use Rattle.card_events.specs.declared.post.Post.TheVariants as post
use Rattle.card_model.specs.Cycles.{Cycle, IssuedRow, Sheet}
use Rattle.card_model.specs.Folds.{cycle_at, row_of_cycle}
use Rattle.card_model.specs.Sheets.{sheet_of}
use Rattle.card_daily.specs.Given.{Given}

-- the row that was issued, if one was
abbrev pub issued_as : Option IssuedRow → List IssuedRow
issued_as None = []
issued_as (Some row) = row ∷ []

-- what a closed cycle's statement shows beside it, where it is issued on a day
abbrev pub sheet_on : Given → ℕ → Cycle → Sheet
sheet_on g day c = sheet_of g.history g.issued g.shared day c

-- the row of a closed cycle that a Bill with a number issues on a day
abbrev pub row_on : Given → ℕ → ℕ → ℕ → Cycle → IssuedRow
row_on g cycle number day c = record { cycle = cycle; bill = number; day = day; statement = c; sheet = sheet_on g day c }

-- what a post with a number issues on a day, where these cycles are closed
abbrev pub issued_from : Given → List Cycle → ℕ → ℕ → Post → List IssuedRow
issued_from g cycles number day (post.Bill cycle) = row_of_cycle cycle number day (sheet_on g day) (cycle_at cycle cycles)
issued_from g cycles number day _ = []
