use Rattle.std.proofs.Common.{◌≡◌, take}
use Rattle.card_closing.specs.Runs.{run_days}
use Rattle.card_closing.proofs.runs.days.Given as goal

abbrev pub invariant-loop-run : goal.invariant-loop-run
invariant-loop-run l = l.count ≡ run_days (take l.run-index l.runs)
