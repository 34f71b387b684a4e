use Rattle.card_desk.proofs.Apart.{requests_stand_apart as law}
use Rattle.card_desk.proofs.laws.requests_stand_apart.Goals as goal

pub returns : goal.returns
returns c = law
