use Rattle.card_billed.proofs.Late.{bills_may_wait as law}
use Rattle.card_billed.proofs.bills_may_wait.Goals as goal

pub returns : goal.returns
returns c = law
