use Rattle.card_bounds.proofs.RateBounds.{rates_small as law}
use Rattle.card_bounds.proofs.laws.rates_small.Goals as goal

pub returns : goal.returns
returns c = law
