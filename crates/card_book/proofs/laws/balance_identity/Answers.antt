use Rattle.card_model.proofs.Balance.{balance_identity as law}
use Rattle.card_book.proofs.laws.balance_identity.Goals as goal

pub returns : goal.returns
returns c = law
