use Rattle.std.proofs.Common.{ap, ◌∙◌, arith}
use Rattle.card_events.specs.History.{anchor_of, corrected}
use Rattle.card_daily.proofs.Penalized.{closed-before-due, met-is}
use Rattle.card_daily.proofs.penalties.is_due_met.Goals as goal

pub due_cycle-due-requires-clause-last : goal.due_cycle-due-requires-clause-last
due_cycle-due-requires-clause-last c = let by = c.requires.due.due in omega (arith, by, c.requires.last)

pub met-requires : goal.met-requires
met-requires c = record { closed = closed-before-due c.args.inputs.now c.args.day c.args.cycle.now c.due_cycle-due.result c.requires.due.days c.due_cycle-due.ensures }

pub returns : goal.returns
returns c =
    let g = c.args.inputs.now in
    let posts = c.posts.ensures.stands ∙ ap (λ h. corrected (anchor_of h) g.shared.holidays h) c.posts.ensures.history in
    c.met.ensures g.shared.holidays c.posts.ensures.stands
    ∙ met-is g c.args.day c.args.cycle.now c.posts.result.now.corrected c.due_cycle-due.result c.requires.due.due posts c.due_cycle-due.ensures
