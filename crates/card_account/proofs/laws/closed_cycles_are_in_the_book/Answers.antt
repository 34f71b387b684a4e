use Rattle.card_account.proofs.ClosedCycles.{closed_cycles_are_in_the_book as law}
use Rattle.card_account.proofs.laws.closed_cycles_are_in_the_book.Goals as goal

pub returns : goal.returns
returns c = law
