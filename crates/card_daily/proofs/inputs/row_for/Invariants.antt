use Rattle.std.proofs.Common.{◌≡◌, drop}
use Rattle.card_model.specs.Caps.{row_for}
use Rattle.card_daily.proofs.inputs.row_for.Given as goal

abbrev pub invariant-loop-row : goal.invariant-loop-row
invariant-loop-row l = row_for l.cycle l.issued ≡ row_for l.cycle (drop l.row-index l.issued)
