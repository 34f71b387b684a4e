use Rattle.card_replay.proofs.LaterReplay.{later_rows_leave_it as law}
use Rattle.card_replay.proofs.laws.later_rows_leave_it.Goals as goal

pub returns : goal.returns
returns c = law
