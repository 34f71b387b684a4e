use Rattle.card_rules.proofs.Receipts.{payments_are_credited_on_receipt as law}
use Rattle.card_rules.proofs.laws.payments_are_credited_on_receipt.Goals as goal

pub returns : goal.returns
returns c = law
