use Rattle.card_replay.proofs.Lates.{late_rows_grow as law}
use Rattle.card_replay.proofs.laws.late_rows_grow.Goals as goal

pub returns : goal.returns
returns c = law
