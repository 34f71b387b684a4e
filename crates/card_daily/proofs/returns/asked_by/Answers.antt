use Rattle.std.proofs.Common.{arith, ap}
use Rattle.std.specs.Prelude.{option_copied}
use Rattle.card_daily.proofs.returns.asked_by.Goals as goal

pub due_cycle-requires-clause-number : goal.due_cycle-requires-clause-number
due_cycle-requires-clause-number c = (c.requires.due c.in-Some.cycle.now (ap option_copied c.in-Some.is)).first

pub due_cycle-requires-clause-last : goal.due_cycle-requires-clause-last
due_cycle-requires-clause-last c =
    let due = (c.requires.due c.in-Some.cycle.now (ap option_copied c.in-Some.is)).due in
    let last = c.requires.last in
    omega (arith, due, last)
