use Rattle.card_book.proofs.IssuedRows.{only_bills_issue as law}
use Rattle.card_book.proofs.laws.only_bills_issue.Goals as goal

pub returns : goal.returns
returns c = law
