use Rattle.card_book.proofs.PenaltyFees.{penalty_fees_are_reasonable as law}
use Rattle.card_book.proofs.laws.penalty_fees_are_reasonable.Goals as goal

pub returns : goal.returns
returns c = law
