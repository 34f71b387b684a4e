-- What a load and an append give, and what they leave of a connection.
use Rattle.std.specs.Prelude.{◌≡◌, false, Result, Vec, List, IsTrue, IfOk, OnOk, OnErr, IsErrOf}
use Rattle.std.specs.declared.alloc.Global.{Global}
use Rattle.sqlite_trees.specs.declared.store.Store.{Ghosts}
use Rattle.sqlite.specs.Held.{Held, state}
use Rattle.sqlite.specs.State.{HasCleanDisk, Survives}
use Rattle.card_ports.specs.declared.row.Row.{Row}
use Rattle.card_ports.specs.declared.keeper.KeeperFault.{KeeperFault}
use Rattle.card_sqlite.specs.Kept.{kept_schema, IsFor, Keeps, Creates, KeepsAll, Extends, Grows}

-- A load gives rows, which are these items, makes the table where it is missing, and keeps the rows. In a transaction, and over
-- another schema, it does nothing and fails.
pub record LoadsAs {S T : Type 0} (g : Ghosts S) (items : T → List Row) (old new : Held S) (result : Result T KeeperFault) : Type 0 where
  pub given : HasCleanDisk (state g new) → IfOk result (λ rows. Keeps (state g old).now (items rows))
  pub made : HasCleanDisk (state g new) → OnOk result (Creates (state g old).now (state g new).now)
  pub kept : HasCleanDisk (state g new) → IsTrue (state g new).is_open → KeepsAll (state g old).now (state g new).now
  pub mode : HasCleanDisk (state g new) → (state g old).in_transaction ≡ false → (state g new).in_transaction ≡ false
  pub busy : IsTrue old.in_transaction → new ≡ old
  pub idle : (IsFor (state g old).now.schema → ⊥) → new ≡ old
  pub denied : IsTrue old.in_transaction → IsErrOf result KeeperFault.Failed
  pub unfit : (IsFor (state g old).now.schema → ⊥) → IsErrOf result KeeperFault.Failed

-- one that gives them each with a list of its own
abbrev pub Loads : {S : Type 0} → Ghosts S → Held S → Held S → Result (Vec Row Global) KeeperFault → Type 0
Loads g old new result = LoadsAs g (λ rows. rows.items) old new result

-- one that gives them packed
abbrev pub LoadsPacked : {S : Type 0} → Ghosts S → Held S → Held S → Result (List Row) KeeperFault → Type 0
LoadsPacked g old new result = LoadsAs g (λ rows. rows) old new result

-- An append adds all of the rows or none, and a crash leaves what it left before, or all of them. In a transaction, and where the
-- table isn't there alone, it does nothing and fails.
pub record Appends {S T : Type 0} (g : Ghosts S) (more : List Row) (old new : Held S) (result : Result T KeeperFault) : Type 0 where
  pub added : HasCleanDisk (state g new) → OnOk result (Extends (state g old).now more (state g new).now)
  pub err : HasCleanDisk (state g new) → IsTrue (state g new).is_open → OnErr result ((state g new).now ≡ (state g old).now)
  pub crash : Survives (state g old) (state g new) (Grows (state g old).now.trees more)
  pub mode : HasCleanDisk (state g new) → (state g old).in_transaction ≡ false → (state g new).in_transaction ≡ false
  pub busy : IsTrue old.in_transaction → new ≡ old
  pub idle : ((state g old).now.schema ≡ kept_schema → ⊥) → new ≡ old
  pub denied : IsTrue old.in_transaction → IsErrOf result KeeperFault.Failed
  pub unfit : ((state g old).now.schema ≡ kept_schema → ⊥) → IsErrOf result KeeperFault.Failed
