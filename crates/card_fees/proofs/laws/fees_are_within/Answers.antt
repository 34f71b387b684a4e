use Rattle.card_fees.proofs.Charges.{fees-within}
use Rattle.card_fees.proofs.laws.fees_are_within.Goals as goal

pub returns : goal.returns
returns c = fees-within
