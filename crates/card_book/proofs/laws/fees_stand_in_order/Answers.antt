use Rattle.card_book.proofs.FeeOrder.{fees_stand_in_order as law}
use Rattle.card_book.proofs.laws.fees_stand_in_order.Goals as goal

pub returns : goal.returns
returns c = law
