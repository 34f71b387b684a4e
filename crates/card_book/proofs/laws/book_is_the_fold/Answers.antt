use Rattle.card_book.proofs.Days.{book_is_the_fold as law}
use Rattle.card_book.proofs.laws.book_is_the_fold.Goals as goal

pub returns : goal.returns
returns c = law
