use Rattle.card_rules.proofs.DisputeTasks.{disputes_are_tasks as law}
use Rattle.card_rules.proofs.laws.disputes_are_tasks.Goals as goal

pub returns : goal.returns
returns c = law
