use Rattle.card_closing.proofs.Turns.{interest_in_turn}
use Rattle.card_closing.proofs.grace_laws.interest_in_turn.Goals as goal

pub returns : goal.returns
returns c = interest_in_turn
