use Rattle.card_rules.proofs.IndexRates.{rates_follow_the_index as law}
use Rattle.card_rules.proofs.laws.rates_follow_the_index.Goals as goal

pub returns : goal.returns
returns c = law
