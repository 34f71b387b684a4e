use Rattle.card_rules.proofs.LowerTasks.{reductions_are_tasks as law}
use Rattle.card_rules.proofs.laws.reductions_are_tasks.Goals as goal

pub returns : goal.returns
returns c = law
