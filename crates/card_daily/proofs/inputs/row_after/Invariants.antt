use Rattle.card_daily.proofs.Since.{NoneFrom}
use Rattle.card_daily.proofs.inputs.row_after.Given as goal

abbrev pub invariant-loop-place : goal.invariant-loop-place
invariant-loop-place l = NoneFrom l.cycle l.place l.issued
