use Rattle.card_rules.proofs.YearSums.{years_add_up as law}
use Rattle.card_rules.proofs.laws.years_add_up.Goals as goal

pub returns : goal.returns
returns c = law
