use Rattle.card_rules.proofs.OwnDays.{bears_its_own_days_alone as law}
use Rattle.card_rules.proofs.laws.bears_its_own_days_alone.Goals as goal

pub returns : goal.returns
returns c = law
