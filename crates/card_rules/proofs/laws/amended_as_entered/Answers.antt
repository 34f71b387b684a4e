use Rattle.card_rules.proofs.Amended.{amended_as_entered as law}
use Rattle.card_rules.proofs.laws.amended_as_entered.Goals as goal

pub returns : goal.returns
returns c = law
