use Rattle.std.proofs.Common.{◌≡◌, ◌≤◌, ◌*◌, take}
use Rattle.card_model.specs.Fees.{fees_sum}
use Rattle.card_closing.proofs.fees.sum_of.Given as goal

abbrev pub invariant-loop-fee : goal.invariant-loop-fee
invariant-loop-fee l = (l.sum ≡ fees_sum (take l.fee-index l.fees)) × (l.sum ≤ l.fee-index * 18_446_744_073_709_551_615)
