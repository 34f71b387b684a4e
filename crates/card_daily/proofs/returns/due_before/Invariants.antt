use Rattle.std.proofs.Common.{◌≡◌, drop, None}
use Rattle.card_model.specs.Fees.{last_due}
use Rattle.card_daily.proofs.returns.due_before.Given as goal

abbrev pub invariant-loop-place : goal.invariant-loop-place
invariant-loop-place l = last_due l.day (drop l.place l.cycles) ≡ None
