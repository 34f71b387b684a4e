use Rattle.card_rates.proofs.Turns.{in_turn}
use Rattle.card_rates.proofs.slot_laws.posts_in_turn.Goals as goal

pub returns : goal.returns
returns c = in_turn
