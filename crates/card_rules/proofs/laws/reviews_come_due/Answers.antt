use Rattle.card_rules.proofs.Reviews.{reviews_come_due as law}
use Rattle.card_rules.proofs.laws.reviews_come_due.Goals as goal

pub returns : goal.returns
returns c = law
