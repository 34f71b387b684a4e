use Rattle.card_fees.proofs.Fold.{counted-past}
use Rattle.card_fees.proofs.laws.counted_in_the_past.Goals as goal

pub returns : goal.returns
returns c = counted-past
