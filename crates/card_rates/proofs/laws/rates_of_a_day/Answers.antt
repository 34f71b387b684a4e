use Rattle.card_rates.proofs.DayLaws.{rates_of_a_day as law}
use Rattle.card_rates.proofs.laws.rates_of_a_day.Goals as goal

pub returns : goal.returns
returns c = law
