use Rattle.std.proofs.Common.{w64}
use Rattle.std.proofs.lemmas.Int.{to_z-of_z}
use Rattle.card_sqlite.proofs.append.put.Goals as goal

pub returns-clause-runs : goal.returns-clause-runs
returns-clause-runs g c clean inside = rw (c.params-to_sql.ensures, to_z-of_z w64 c.args.seq c.ranges.seq, c.params-to_sql-2.ensures) at (c.execute.ensures.runs clean inside)
