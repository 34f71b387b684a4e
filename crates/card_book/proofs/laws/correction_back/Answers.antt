use Rattle.card_model.proofs.Inert.{correction_back as law}
use Rattle.card_book.proofs.laws.correction_back.Goals as goal

pub returns : goal.returns
returns c = law
