use Rattle.std.proofs.Common.{◌≡◌, false, take}
use Rattle.card_model.specs.Fees.{is_repeat}
use Rattle.card_fees.proofs.late_fees.is_repeat.Given as goal

abbrev pub invariant-loop-fee : goal.invariant-loop-fee
invariant-loop-fee l = is_repeat l.kind l.cycle (take l.fee-index l.fees) ≡ false
