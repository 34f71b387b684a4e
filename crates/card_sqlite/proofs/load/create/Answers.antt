use Rattle.std.proofs.Common.{[]}
use Rattle.sqlite.specs.Held.{state}
use Rattle.card_sqlite.specs.Kept.{create_text}
use Rattle.card_sqlite.proofs.Statements.{creates_for, settles_for, stays_executed, mode_created}
use Rattle.card_sqlite.proofs.load.create.Goals as goal

pub returns-clause-made : goal.returns-clause-made
returns-clause-made g c clean for = creates_for (state g.S.Store c.args.conn.now) (state g.S.Store c.execute.new.self) c.execute.result for (c.execute.ensures.runs clean)

pub returns-clause-settled : goal.returns-clause-settled
returns-clause-settled g c clean for settled = settles_for (state g.S.Store c.args.conn.now) (state g.S.Store c.execute.new.self) c.execute.result for settled (c.execute.ensures.runs clean)

pub returns-clause-err : goal.returns-clause-err
returns-clause-err g c clean settled = stays_executed (state g.S.Store c.args.conn.now) (state g.S.Store c.execute.new.self) create_text [] c.execute.result settled (c.execute.ensures.runs clean)

pub returns-clause-mode : goal.returns-clause-mode
returns-clause-mode g c clean for settled = mode_created (state g.S.Store c.args.conn.now) (state g.S.Store c.execute.new.self) c.execute.result for settled (c.execute.ensures.runs clean)
