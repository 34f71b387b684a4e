use Rattle.card_past.proofs.Waiting.{unmade_rows_leave_it as law}
use Rattle.card_replay.proofs.laws.unmade_rows_leave_it.Goals as goal

pub returns : goal.returns
returns c = law
