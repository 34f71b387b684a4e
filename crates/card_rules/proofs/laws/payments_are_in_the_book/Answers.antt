use Rattle.card_rules.proofs.PaidInTheBook.{payments_are_in_the_book as law}
use Rattle.card_rules.proofs.laws.payments_are_in_the_book.Goals as goal

pub returns : goal.returns
returns c = law
