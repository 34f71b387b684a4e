use Rattle.card_fees.proofs.OneFee.{one-fee-each}
use Rattle.card_fees.proofs.laws.due_dates_have_one_fee.Goals as goal

pub returns : goal.returns
returns c = one-fee-each
