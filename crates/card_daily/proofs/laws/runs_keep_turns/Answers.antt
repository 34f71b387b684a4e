use Rattle.card_daily.proofs.Turns as runs
use Rattle.card_daily.proofs.laws.runs_keep_turns.Goals as goal

pub returns : goal.returns
returns c = runs.runs_keep_turns
