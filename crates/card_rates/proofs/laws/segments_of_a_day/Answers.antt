use Rattle.card_rates.proofs.DayLaws.{segments_of_a_day as law}
use Rattle.card_rates.proofs.laws.segments_of_a_day.Goals as goal

pub returns : goal.returns
returns c = law
