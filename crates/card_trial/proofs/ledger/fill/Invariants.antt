use Rattle.std.proofs.Common.{take}
use Rattle.card_trial.specs.Totals.{AreTotals}
use Rattle.card_trial.proofs.ledger.fill.Given as goal

abbrev pub invariant-loop-place : goal.invariant-loop-place
invariant-loop-place l = AreTotals (take l.place l.desk.recorded) l.totals
