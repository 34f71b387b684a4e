use Rattle.card_rules.proofs.RaiseBounds.{raises_are_bounded as law}
use Rattle.card_rules.proofs.laws.raises_are_bounded.Goals as goal

pub returns : goal.returns
returns c = law
