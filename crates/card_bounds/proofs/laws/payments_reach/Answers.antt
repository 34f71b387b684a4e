use Rattle.card_bounds.proofs.Reached.{payments_reach as law}
use Rattle.card_bounds.proofs.laws.payments_reach.Goals as goal

pub returns : goal.returns
returns c = law
