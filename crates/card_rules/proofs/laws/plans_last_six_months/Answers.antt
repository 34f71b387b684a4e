use Rattle.card_rules.proofs.PlanMonths.{plans_last_six_months as law}
use Rattle.card_rules.proofs.laws.plans_last_six_months.Goals as goal

pub returns : goal.returns
returns c = law
