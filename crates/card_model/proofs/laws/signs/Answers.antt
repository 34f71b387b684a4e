use Rattle.card_model.proofs.Sound.{signs as law}
use Rattle.card_model.proofs.laws.signs.Goals as goal

pub returns : goal.returns
returns c = law
