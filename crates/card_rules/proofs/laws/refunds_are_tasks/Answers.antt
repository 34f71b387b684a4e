use Rattle.card_rules.proofs.RefundTasks.{refunds_are_tasks as law}
use Rattle.card_rules.proofs.laws.refunds_are_tasks.Goals as goal

pub returns : goal.returns
returns c = law
