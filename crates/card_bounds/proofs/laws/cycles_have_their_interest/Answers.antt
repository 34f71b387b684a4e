use Rattle.card_bounds.proofs.CycleInterest.{cycles_have_their_interest as law}
use Rattle.card_bounds.proofs.laws.cycles_have_their_interest.Goals as goal

pub returns : goal.returns
returns c = law
