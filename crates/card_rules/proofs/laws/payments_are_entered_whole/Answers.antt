use Rattle.card_rules.proofs.WholePayments.{payments_are_entered_whole as law}
use Rattle.card_rules.proofs.laws.payments_are_entered_whole.Goals as goal

pub returns : goal.returns
returns c = law
