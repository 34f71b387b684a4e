use Rattle.std.proofs.Common.{ap}
use Rattle.card_cases.proofs.Aged.{moves-alike}
use Rattle.card_cases.proofs.desks.carry.Goals as goal

pub returns-in-Ok-clause-state : goal.returns-in-Ok-clause-state
returns-in-Ok-clause-state g c = ap (λ p. p.0) c.in-Ok.ensures.ok.step_is

pub returns-in-Ok-clause-reached : goal.returns-in-Ok-clause-reached
returns-in-Ok-clause-reached g c = moves-alike _ _ _ _ c.args.desk.now c.apply.new.self c.args.request.now c.in-Ok.ensures.reached
