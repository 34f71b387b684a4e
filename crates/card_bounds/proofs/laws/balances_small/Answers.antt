use Rattle.card_bounds.proofs.Whole.{balances_small as law}
use Rattle.card_bounds.proofs.laws.balances_small.Goals as goal

pub returns : goal.returns
returns c = law
