use Rattle.card_rules.proofs.CorrectedFacts.{corrected_facts_are_enough as law}
use Rattle.card_rules.proofs.laws.corrected_facts_are_enough.Goals as goal

pub returns : goal.returns
returns c = law
