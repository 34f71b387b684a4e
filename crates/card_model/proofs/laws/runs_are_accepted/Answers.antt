use Rattle.card_model.proofs.Accepting.{runs_are_accepted as law}
use Rattle.card_model.proofs.laws.runs_are_accepted.Goals as goal

pub returns : goal.returns
returns c = law
