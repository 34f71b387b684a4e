use Rattle.card_billed.proofs.Rests.{rows_stay_unmade as law}
use Rattle.card_billed.proofs.rows_stay_unmade.Goals as goal

pub returns : goal.returns
returns c = law
