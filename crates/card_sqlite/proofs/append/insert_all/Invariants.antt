use Rattle.std.proofs.Common.{◌≡◌, take, IsTrue}
use Rattle.sqlite.specs.State.{HasCleanDisk, KeepsCommit, Survives}
use Rattle.sqlite.specs.Held.{state}
use Rattle.card_sqlite.specs.Kept.{kept_schema, AddsAll}
use Rattle.card_sqlite.proofs.append.insert_all.Given as goal

abbrev pub invariant-loop-row : goal.invariant-loop-row
invariant-loop-row g l =
    let old = state g.S.Store l.initial.tx.conn.now in
    let now = state g.S.Store l.tx.conn.now in
    (l.tx.conn.ghost_name ≡ l.initial.tx.conn.ghost_name) × Survives old now (λ _. ⊥)
    × (HasCleanDisk now → IsTrue old.in_transaction → IsTrue now.in_transaction × KeepsCommit old now × (old.now.schema ≡ kept_schema → AddsAll (take l.row-index l.rows) old now))
