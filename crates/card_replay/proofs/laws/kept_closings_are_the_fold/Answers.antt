use Rattle.card_replay.proofs.KeptLaws.{kept_closings_are_the_fold as law}
use Rattle.card_replay.proofs.laws.kept_closings_are_the_fold.Goals as goal

pub returns : goal.returns
returns c = law
