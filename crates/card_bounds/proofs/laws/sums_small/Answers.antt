use Rattle.card_bounds.proofs.Dated.{sums_small as law}
use Rattle.card_bounds.proofs.laws.sums_small.Goals as goal

pub returns : goal.returns
returns c = law
