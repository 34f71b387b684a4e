use Rattle.card_statement.proofs.AtClosing.{cycles_stand_at_closing as law}
use Rattle.card_statement.proofs.laws.cycles_stand_at_closing.Goals as goal

pub returns : goal.returns
returns c = law
