use Rattle.card_trial.proofs.Together.{debits_and_credits as law}
use Rattle.card_trial.proofs.laws.debits_and_credits.Goals as goal

pub returns : goal.returns
returns c = law
