use Rattle.card_past.proofs.Waiting.{steps_are_those_of_all as law}
use Rattle.card_replay.proofs.laws.steps_are_those_of_all.Goals as goal

pub returns : goal.returns
returns c = law
