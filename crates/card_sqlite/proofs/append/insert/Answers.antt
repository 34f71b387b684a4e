use Rattle.std.proofs.Common.{w64}
use Rattle.std.proofs.lemmas.Int.{to_z-of_z}
use Rattle.sqlite.specs.Held.{state}
use Rattle.card_sqlite.proofs.Statements.{adds_for, still_inside}
use Rattle.card_sqlite.proofs.append.insert.Goals as goal

pub returns-clause-added : goal.returns-clause-added
returns-clause-added g c clean inside has =
    adds_for (state g.S.Store c.args.tx.now.conn.now) (state g.S.Store c.put.new.tx.conn.now) c.args.row.now c.put.result inside has (rw (to_z-of_z w64 c.in-Some.seq c.in-Some.ensures.fits, c.in-Some.ensures.same, c.bytes.ensures) at (c.put.ensures.runs clean inside))

pub returns-clause-inside : goal.returns-clause-inside
returns-clause-inside g c clean inside = still_inside (state g.S.Store c.args.tx.now.conn.now) (state g.S.Store c.put.new.tx.conn.now) _ _ c.put.result (c.put.ensures.runs clean inside)
