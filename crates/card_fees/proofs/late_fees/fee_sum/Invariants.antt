use Rattle.std.proofs.Common.{◌≡◌, ◌≤◌, ◌*◌, take}
use Rattle.card_model.specs.Fees.{fees_for}
use Rattle.card_fees.proofs.late_fees.fee_sum.Given as goal

abbrev pub invariant-loop-fee : goal.invariant-loop-fee
invariant-loop-fee l = (l.total ≡ fees_for l.due_cycle (take l.fee-index l.fees)) × (l.total ≤ l.fee-index * 9_223_372_036_854_775_807)
