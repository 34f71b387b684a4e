use Rattle.card_rules.proofs.LateStatements.{late_statements_cost_no_grace as law}
use Rattle.card_rules.proofs.laws.late_statements_cost_no_grace.Goals as goal

pub returns : goal.returns
returns c = law
