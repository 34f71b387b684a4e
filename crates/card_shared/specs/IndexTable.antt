-- The rows of an index table as they are stored.
use Rattle.std.specs.Prelude.{ℕ, suc, Bool, false, ◌==◌, Option, Some, None, if◌then◌else◌, List, [], ◌∷◌, map}
use Rattle.card_events.specs.SharedRows.{IndexRow}
use Rattle.card_shared.specs.declared.index_table.Row.{Row}

-- a stored row as clauses see it
abbrev pub index_row : Row → IndexRow
index_row r = record { day = r.day; rate = r.rate }

-- all of them
abbrev pub index_rows : List Row → List IndexRow
index_rows rows = map index_row rows

-- how many rows in front pass a test
unfoldable pub leading : (IndexRow → Bool) → List IndexRow → ℕ
leading p [] = 0
leading p (r ∷ rs) = let more = suc (leading p rs) in if p r then more else 0

-- the row that was found is of this day
abbrev pub is_day : ℕ → Option Row → Bool
is_day day None = false
is_day day (Some r) = r.day == day
