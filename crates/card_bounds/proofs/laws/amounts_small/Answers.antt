use Rattle.card_bounds.proofs.CycleAmounts.{amounts_small as law}
use Rattle.card_bounds.proofs.laws.amounts_small.Goals as goal

pub returns : goal.returns
returns c = law
