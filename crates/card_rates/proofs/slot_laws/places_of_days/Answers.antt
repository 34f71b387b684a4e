use Rattle.card_rates.proofs.Places.{of_days}
use Rattle.card_rates.proofs.slot_laws.places_of_days.Goals as goal

pub returns : goal.returns
returns c = of_days
