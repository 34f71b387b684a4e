use Rattle.std.proofs.Common.{◌≡◌, drop}
use Rattle.card_rates.specs.Segments.{plan_from}
use Rattle.card_rates.proofs.plan.first_plan.Given as goal

abbrev pub invariant-loop-id : goal.invariant-loop-id
invariant-loop-id l = plan_from l.post l.today l.id (drop l.id l.segments.segments) ≡ plan_from l.post l.today 0 l.segments.segments
