use Rattle.card_billed.proofs.Steps.{steps_to_the_first as law}
use Rattle.card_billed.proofs.steps_to_the_first.Goals as goal

pub returns : goal.returns
returns c = law
