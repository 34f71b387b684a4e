use Rattle.card_billed.proofs.Steps.{issue_days_are_breaks as law}
use Rattle.card_billed.proofs.issue_days_are_breaks.Goals as goal

pub returns : goal.returns
returns c = law
