-- Stores that tell what they hold, and the rows that a keeper over one tells.
use Rattle.std.specs.Prelude.{◌≡◌, Bool, true, false, not, ◌&&◌, ◌||◌, if◌then◌else◌, ◌==◌, List, [], map, Option, Some, None, IsTrue}
use base.Stored.{Gv, gnil, gnum, gcons}
use Rattle.std.proofs.Common.{refl, sym, true≢false}
use Rattle.sqlite_trees.specs.declared.memory.MemStore.{MemStore}
use Rattle.sqlite_trees.specs.Memory.{memory_view, memory_is_ordered, memory_is_listed}
use Rattle.sqlite_trees.specs.View.{View, IsOrdered}
use Rattle.sqlite_trees.specs.Objects.{catalog_tree, IsListed}
use Rattle.sqlite_schema.specs.declared.schema.Schema.{Schema}
use Rattle.sqlite_schema.specs.contracts.schema.Schema.{the_row}
use Rattle.sqlite.specs.Effect.{Database}
use Rattle.sqlite.specs.Held.{Held, state}
use Rattle.sqlite.specs.State.{State}
use Rattle.sqlite.specs.Steps.{over_memory}
use Rattle.card_ports.specs.declared.row.Row.{Row}
use Rattle.card_sqlite.specs.Kept.{no_schema, kept_schema, shown, row_in}

-- the store is open, nothing but what was written comes back, and its trees are in order and listed
pub record IsShown (v : View) : Type 0 where
  pub clean : IsTrue v.is_clean
  pub is_open : IsTrue v.is_open
  pub ordered : IsOrdered v.shape v.trees
  pub listed : IsListed (v.trees catalog_tree) v.shape v.reals

-- the store in memory is shown so
pub memory_shows : (s : MemStore) → IsShown (memory_view s)
memory_shows s = record { clean = refl; is_open = refl; ordered = memory_is_ordered s; listed = memory_is_listed s }

pub never : {X : Type 0} → false ≡ true → X
never wrong = absurd (true≢false (sym wrong))

-- whether two codes are one
abbrev pub same_code : Gv → Gv → Bool
same_code gnil gnil = true
same_code gnil (gnum n) = false
same_code gnil (gcons a b) = false
same_code (gnum m) gnil = false
same_code (gnum m) (gnum n) = m == n
same_code (gnum m) (gcons a b) = false
same_code (gcons a b) gnil = false
same_code (gcons a b) (gnum n) = false
same_code (gcons a b) (gcons c d) = same_code a c && same_code b d

abbrev pub same_schema : Schema → Schema → Bool
same_schema a b = same_code (the_row.coded.code a) (the_row.coded.code b)

-- the database has no table, or `kept` alone
unfoldable pub is_for : Schema → Bool
is_for s = same_schema s no_schema || same_schema s kept_schema

-- its rows: none where it has no table, else those of the tree, which is in order of seq
abbrev pub rows_in : Database → List Row
rows_in db = if same_schema db.schema no_schema then [] else map row_in (map shown (db.trees 0))

-- what a keeper tells: its rows, where the store tells what it holds, no transaction is under way, and the table is the ledger's or missing
abbrev pub told : Bool → State → Option (List Row)
told tells s = if tells && not s.in_transaction && is_for s.now.schema then Some (rows_in s.now) else None

-- what one over a database in memory tells
abbrev pub told_in_memory : Held MemStore → Option (List Row)
told_in_memory held = told true (state over_memory held)
