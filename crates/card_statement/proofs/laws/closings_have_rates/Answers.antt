use Rattle.card_statement.proofs.Repayable.{closings_have_rates as law}
use Rattle.card_statement.proofs.laws.closings_have_rates.Goals as goal

pub returns : goal.returns
returns c = law
