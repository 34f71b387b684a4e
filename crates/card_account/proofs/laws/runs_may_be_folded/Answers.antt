use Rattle.card_account.proofs.Runs.{runs_may_be_folded as law}
use Rattle.card_account.proofs.laws.runs_may_be_folded.Goals as goal

pub returns : goal.returns
returns c = law
