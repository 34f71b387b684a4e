use Rattle.card_replay.proofs.Lates.{late_rows_can_be_made as law}
use Rattle.card_replay.proofs.laws.late_rows_can_be_made.Goals as goal

pub returns : goal.returns
returns c = law
