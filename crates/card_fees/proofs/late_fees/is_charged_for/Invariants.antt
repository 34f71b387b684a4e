use Rattle.std.proofs.Common.{◌≡◌, false, take}
use Rattle.card_model.specs.Fees.{is_charged_for}
use Rattle.card_fees.proofs.late_fees.is_charged_for.Given as goal

abbrev pub invariant-loop-fee : goal.invariant-loop-fee
invariant-loop-fee l = is_charged_for l.due_cycle (take l.fee-index l.fees) ≡ false
