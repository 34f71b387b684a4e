-- The records of the table, read one at a time.
use Rattle.std.specs.Prelude.{◌≡◌, ◌⊎◌, Bool, true, false, List, [], map, All}
use Rattle.sqlite_trees.specs.declared.store.Store.{Ghosts}
use Rattle.sqlite_value.specs.Order.{Row as Record, column}
use Rattle.sqlite.specs.Values.{IsInt}
use Rattle.sqlite.specs.State.{State, IsUnchanged, IsRolledBack}
use Rattle.sqlite.specs.Held.{Held, state}
use Rattle.sqlite.specs.Given.{HasGiven}
use Rattle.card_ports.specs.declared.row.Row.{Row}
use Rattle.card_sqlite.specs.Kept.{select_text, kept_schema, row_in, AreKept}

-- these are the rows of the records that the query has given so far
pub record HasRead {S : Type 0} (g : Ghosts S) (h : Held S) (rows : List Row) : Type 0 where
  pub given : List Record
  pub gives : HasGiven g select_text [] h given
  pub numbered : All (λ r. IsInt (column r 0)) given
  pub read : rows ≡ map row_in given

-- one more record is read, or the rows so far are all that the table keeps
abbrev pub ReadsOn : {S : Type 0} → Ghosts S → Held S → Held S → List Row → List Row → Bool → Type 0
ReadsOn g old new before after true = HasRead g old before → HasRead g new after
ReadsOn g old new before after false = HasRead g old before → (state g old).now.schema ≡ kept_schema → AreKept (state g old).now.trees after

-- what a call that failed leaves: all as it was, or the transaction undone
abbrev pub IsLeft : State → State → Type 0
IsLeft old new = IsUnchanged old new ⊎ IsRolledBack old new
