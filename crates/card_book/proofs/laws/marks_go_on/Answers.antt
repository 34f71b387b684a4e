use Rattle.card_book.proofs.MarksGoOn.{marks_go_on as law}
use Rattle.card_book.proofs.laws.marks_go_on.Goals as goal

pub returns : goal.returns
returns c = law
