use Rattle.card_billed.proofs.Fronts.{fronts_are_accepted as law}
use Rattle.card_billed.proofs.fronts_are_accepted.Goals as goal

pub returns : goal.returns
returns c = law
