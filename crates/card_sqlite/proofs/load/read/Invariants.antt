use Rattle.std.proofs.Common.{◌≡◌, ◌≤◌, false}
use Rattle.sqlite_trees.specs.View.{doubt}
use Rattle.sqlite.specs.State.{HasCleanDisk, IsUnchanged}
use Rattle.sqlite.specs.Held.{state}
use Rattle.card_sqlite.specs.Kept.{kept_schema}
use Rattle.card_sqlite.specs.Reading.{HasRead}
use Rattle.card_sqlite.proofs.load.read.Given as goal

abbrev pub invariant-records : goal.invariant-records
invariant-records g l =
    let old = state g.S.Store l.fn.conn in
    let now = state g.S.Store l.records.conn.now in
    (l.records.conn.ghost_name ≡ l.initial.records.conn.ghost_name) × (doubt old.is_clean ≤ doubt now.is_clean) × (old.in_transaction ≡ false → now.in_transaction ≡ false)
    × (HasCleanDisk now → old.now.schema ≡ kept_schema → HasRead g.S.Store l.records.conn.now l.rows × IsUnchanged old now)
