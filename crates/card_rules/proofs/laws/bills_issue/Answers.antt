use Rattle.card_rules.proofs.Bills.{bills_issue as law}
use Rattle.card_rules.proofs.laws.bills_issue.Goals as goal

pub returns : goal.returns
returns c = law
