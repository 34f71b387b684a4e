use Rattle.card_rules.proofs.FirstYear.{first_year_keeps_its_rates as law}
use Rattle.card_rules.proofs.laws.first_year_keeps_its_rates.Goals as goal

pub returns : goal.returns
returns c = law
