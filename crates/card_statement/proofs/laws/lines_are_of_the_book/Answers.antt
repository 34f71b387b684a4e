use Rattle.card_statement.proofs.SeenLines.{lines_are_of_the_book as law}
use Rattle.card_statement.proofs.laws.lines_are_of_the_book.Goals as goal

pub returns : goal.returns
returns c = law
