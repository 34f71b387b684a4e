use Rattle.card_billed.proofs.Late.{rows_are_made_late as law}
use Rattle.card_billed.proofs.rows_are_made_late.Goals as goal

pub returns : goal.returns
returns c = law
