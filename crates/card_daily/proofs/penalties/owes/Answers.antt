use Rattle.std.proofs.Common.{ap, ◌∙◌}
use Rattle.card_events.specs.History.{anchor_of, corrected}
use Rattle.card_daily.proofs.Penalized.{closed-before-due, owes-is}
use Rattle.card_daily.proofs.penalties.owes.Goals as goal

pub owes_sixty_days-requires : goal.owes_sixty_days-requires
owes_sixty_days-requires c = record { closed = closed-before-due c.args.inputs.now c.args.day c.args.cycle.now c.due_cycle-due.result c.requires.closed.days c.due_cycle-due.ensures }

pub returns : goal.returns
returns c =
    let g = c.args.inputs.now in
    let posts = c.posts.ensures.stands ∙ ap (λ h. corrected (anchor_of h) g.shared.holidays h) c.posts.ensures.history in
    c.owes_sixty_days.ensures g.shared.holidays c.posts.ensures.stands
    ∙ owes-is g c.args.day c.args.cycle.now c.posts.result.now.corrected c.due_cycle-due.result posts c.due_cycle-due.ensures
