use Rattle.card_billed.proofs.Late.{unmade_rows_change_no_past_day as law}
use Rattle.card_billed.proofs.unmade_rows_change_no_past_day.Goals as goal

pub returns : goal.returns
returns c = law
