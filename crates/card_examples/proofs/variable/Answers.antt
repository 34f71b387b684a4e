use Rattle.card_examples.proofs.Followed.{rates, refusals}
use Rattle.card_examples.proofs.variable.Goals as goal

pub returns-clause-rates : goal.returns-clause-rates
returns-clause-rates c = rates

pub returns-clause-refusals : goal.returns-clause-refusals
returns-clause-refusals c = refusals
