use Rattle.card_closing.proofs.Lowering.{repayments_lower}
use Rattle.card_closing.proofs.grace_laws.repayments_lower.Goals as goal

pub returns : goal.returns
returns c = repayments_lower
