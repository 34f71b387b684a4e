use Rattle.card_rates.proofs.Runs.{runs_have_few_segments as law}
use Rattle.card_rates.proofs.laws.runs_have_few_segments.Goals as goal

pub returns : goal.returns
returns c = law
