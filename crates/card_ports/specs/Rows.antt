-- Lists of kept rows.
use Rattle.std.specs.Prelude.{◌≡◌, ℕ, ◌+◌, Bool, true, ◌==◌, ◌&&◌, List, [], ◌∷◌, ◌++◌, Option, Some, None, is_some, ⊤}
use Rattle.card_ports.specs.Forms.{Calls}
use Rattle.card_ports.specs.declared.row.Row.{Row}

-- the number after that of the last row, where n is the first row's
unfoldable pub next_after : ℕ → List Row → ℕ
next_after n [] = n
next_after n (r ∷ rs) = next_after (r.seq + 1) rs

-- the number of the next row: 1, or one more than the last
abbrev pub next_seq : List Row → ℕ
next_seq rows = next_after 1 rows

-- the rows are numbered from n on
unfoldable pub are_from : ℕ → List Row → Bool
are_from n [] = true
are_from n (r ∷ rs) = (r.seq == n) && are_from (n + 1) rs

-- the numbers of new rows go on from the last, where the rows are told
abbrev pub GoOn : Option (List Row) → List Row → Type 0
GoOn None more = ⊤
GoOn (Some rows) more = are_from (next_seq rows) more ≡ true

-- the rows stay, where they are told
abbrev pub KeepsRows : Option (List Row) → Option (List Row) → Type 0
KeepsRows None new = ⊤
KeepsRows (Some xs) None = ⊥
KeepsRows (Some xs) (Some ys) = ys ≡ xs

-- these rows stand at the end, where the rows are told
abbrev pub AddsRows : Option (List Row) → Option (List Row) → List Row → Type 0
AddsRows None new more = ⊤
AddsRows (Some xs) None more = ⊥
AddsRows (Some xs) (Some ys) more = ys ≡ xs ++ more

-- this is the list, where the rows are told
abbrev pub GivesRows : Option (List Row) → List Row → Type 0
GivesRows None given = ⊤
GivesRows (Some rows) given = given ≡ rows

-- whether a form tells its rows is the same before and after
abbrev pub SameRowsTold : Option (List Row) → Option (List Row) → Type 0
SameRowsTold old new = is_some new ≡ is_some old

-- a keeper in memory whose listed calls fail: its rows, and the calls
pub record Failing : Type 0 where
  pub rows : List Row
  pub calls : Calls
