use Rattle.card_fees.proofs.Charges.{fees-one-each}
use Rattle.card_fees.proofs.laws.fees_stay_one_each.Goals as goal

pub returns : goal.returns
returns c = fees-one-each
