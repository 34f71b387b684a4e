use Rattle.card_daily.proofs.Runs as runs
use Rattle.card_daily.proofs.laws.runs_keep_plans.Goals as goal

pub returns : goal.returns
returns c = runs.runs_keep_plans
