use Rattle.card_bounds.proofs.Dated.{rows_of_past_days as law}
use Rattle.card_bounds.proofs.laws.rows_of_past_days.Goals as goal

pub returns : goal.returns
returns c = law
