use Rattle.card_fees.proofs.Issued.{due-single}
use Rattle.card_fees.proofs.due_laws.due_payments_by_single_rows.Goals as goal

pub returns : goal.returns
returns c = due-single
