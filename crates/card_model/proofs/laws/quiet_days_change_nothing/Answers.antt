use Rattle.card_model.proofs.Quiet.{quiet_days_change_nothing as law}
use Rattle.card_model.proofs.laws.quiet_days_change_nothing.Goals as goal

pub returns : goal.returns
returns c = law
