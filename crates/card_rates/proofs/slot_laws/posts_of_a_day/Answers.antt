use Rattle.card_rates.proofs.Turns.{of_a_day}
use Rattle.card_rates.proofs.slot_laws.posts_of_a_day.Goals as goal

pub returns : goal.returns
returns c = of_a_day
