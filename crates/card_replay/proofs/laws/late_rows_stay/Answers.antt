use Rattle.card_replay.proofs.Lates.{late_rows_stay as law}
use Rattle.card_replay.proofs.laws.late_rows_stay.Goals as goal

pub returns : goal.returns
returns c = law
