use Rattle.std.proofs.Common.{◌≡◌, take}
use Rattle.card_model.specs.Fees.{fees_in}
use Rattle.card_closing.proofs.fees.fees_in.Given as goal

abbrev pub invariant-loop-fee : goal.invariant-loop-fee
invariant-loop-fee l = l.items.items ≡ fees_in l.cycle (take l.fee-index l.fees)
