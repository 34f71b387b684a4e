use Rattle.std.proofs.Common.{take}
use Rattle.card_desk.specs.Kept.{IsRunOf}
use Rattle.card_desk.proofs.load.run_rows.Given as goal

abbrev pub invariant-loop-i : goal.invariant-loop-i
invariant-loop-i g l = IsRunOf (take l.i l.rows) l.desk.state
