use Rattle.card_rules.proofs.Undisputed.{disputed_is_not_asked as law}
use Rattle.card_rules.proofs.laws.disputed_is_not_asked.Goals as goal

pub returns : goal.returns
returns c = law
