use Rattle.card_rates.proofs.Penalties.{penalties_stay as law}
use Rattle.card_rates.proofs.laws.penalties_stay.Goals as goal

pub returns : goal.returns
returns c = law
