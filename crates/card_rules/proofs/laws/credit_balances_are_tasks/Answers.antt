use Rattle.card_rules.proofs.CreditTasks.{credit_balances_are_tasks as law}
use Rattle.card_rules.proofs.laws.credit_balances_are_tasks.Goals as goal

pub returns : goal.returns
returns c = law
