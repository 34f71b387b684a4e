use Rattle.card_fees.proofs.Charges.{missed-asks-last}
use Rattle.card_fees.proofs.laws.missed_asks_last.Goals as goal

pub returns : goal.returns
returns c = missed-asks-last
