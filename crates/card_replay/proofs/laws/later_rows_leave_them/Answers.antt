use Rattle.card_replay.proofs.Lates.{later_rows_leave_them as law}
use Rattle.card_replay.proofs.laws.later_rows_leave_them.Goals as goal

pub returns : goal.returns
returns c = law
