use Rattle.card_bounds.proofs.Bounded.{balances_bounded as law}
use Rattle.card_bounds.proofs.laws.balances_bounded.Goals as goal

pub returns : goal.returns
returns c = law
