use Rattle.card_past.proofs.NoneLeft.{none_is_left as law}
use Rattle.card_replay.proofs.laws.none_is_left.Goals as goal

pub returns : goal.returns
returns c = law
