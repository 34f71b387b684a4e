use Rattle.card_billed.proofs.Rests.{rows_grow_unmade as law}
use Rattle.card_billed.proofs.rows_grow_unmade.Goals as goal

pub returns : goal.returns
returns c = law
