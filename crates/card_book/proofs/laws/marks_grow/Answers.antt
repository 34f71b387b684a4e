use Rattle.card_book.proofs.MarksGrow.{marks_grow as law}
use Rattle.card_book.proofs.laws.marks_grow.Goals as goal

pub returns : goal.returns
returns c = law
