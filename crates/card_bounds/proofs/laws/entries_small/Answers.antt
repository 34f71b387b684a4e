use Rattle.card_bounds.proofs.EntrySizes.{entries_small as law}
use Rattle.card_bounds.proofs.laws.entries_small.Goals as goal

pub returns : goal.returns
returns c = law
