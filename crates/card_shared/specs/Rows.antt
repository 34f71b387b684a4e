-- The rows of a fee table as they are stored.
use Rattle.std.specs.Prelude.{ℕ, nat_lt, if◌then◌else◌, List, Option, Some, None, map}
use Rattle.card_events.specs.SharedRows.{FeeRow}
use Rattle.card_shared.specs.declared.table.Row.{Row}

-- a stored row as clauses see it
abbrev pub fee_row : Row → FeeRow
fee_row r = record { day = r.day; first = r.first; repeat = r.repeat }

-- all of them
abbrev pub fee_rows : List Row → List FeeRow
fee_rows rows = map fee_row rows

-- of two rows the one with the later day, else the second
abbrev pub later_of : Option Row → Row → Row
later_of None r = r
later_of (Some o) r = if nat_lt r.day o.day then o else r

-- the row found so far, or the next one where it is in force on the day and its day isn't earlier
abbrev pub latest : ℕ → Option Row → Row → Option Row
latest day found r = if nat_lt day r.day then found else Some (later_of found r)
