use Rattle.card_book.proofs.IssuedRows.{issued_rows_stay as law}
use Rattle.card_book.proofs.laws.issued_rows_stay.Goals as goal

pub returns : goal.returns
returns c = law
