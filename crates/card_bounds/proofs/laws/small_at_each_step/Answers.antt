use Rattle.card_bounds.proofs.Points.{small_at_each_step as law}
use Rattle.card_bounds.proofs.laws.small_at_each_step.Goals as goal

pub returns : goal.returns
returns c = law
