use Rattle.card_closing.proofs.Accruing.{accrual_of_a_book}
use Rattle.card_closing.proofs.grace_laws.accrual_of_a_book.Goals as goal

pub returns : goal.returns
returns c = accrual_of_a_book
