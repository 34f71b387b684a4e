use Rattle.card_closing.proofs.OfBook.{rows_of_a_book}
use Rattle.card_closing.proofs.grace_laws.rows_of_a_book.Goals as goal

pub returns : goal.returns
returns c = rows_of_a_book
