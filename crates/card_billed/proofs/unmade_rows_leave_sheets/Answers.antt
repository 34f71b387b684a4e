use Rattle.card_billed.proofs.SheetsStay.{unmade_rows_leave_sheets as law}
use Rattle.card_billed.proofs.unmade_rows_leave_sheets.Goals as goal

pub returns : goal.returns
returns c = law
