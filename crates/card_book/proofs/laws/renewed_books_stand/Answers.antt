use Rattle.card_book.proofs.Renewing.{renewed_books_stand as law}
use Rattle.card_book.proofs.laws.renewed_books_stand.Goals as goal

pub returns : goal.returns
returns c = law
