use Rattle.card_bounds.proofs.Dated.{rows_small as law}
use Rattle.card_bounds.proofs.laws.rows_small.Goals as goal

pub returns : goal.returns
returns c = law
