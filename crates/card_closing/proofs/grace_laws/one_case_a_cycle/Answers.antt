use Rattle.card_closing.proofs.Cases.{one_case}
use Rattle.card_closing.proofs.grace_laws.one_case_a_cycle.Goals as goal

pub returns : goal.returns
returns c = one_case
