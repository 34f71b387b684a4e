use Rattle.card_closing.proofs.OfClosing.{closing_interest_is}
use Rattle.card_closing.proofs.laws.interest_of_a_closing.Goals as goal

pub returns : goal.returns
returns c = closing_interest_is
