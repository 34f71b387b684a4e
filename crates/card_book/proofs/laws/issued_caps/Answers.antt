use Rattle.card_model.proofs.Caps.{issued_caps as law}
use Rattle.card_book.proofs.laws.issued_caps.Goals as goal

pub returns : goal.returns
returns c = law
