use Rattle.card_book.proofs.StepCounts.{steps_add_up as law}
use Rattle.card_book.proofs.laws.steps_add_up.Goals as goal

pub returns : goal.returns
returns c = law
