use Rattle.card_disputes.proofs.DeadlineLemmas.{resolve-is}
use Rattle.card_disputes.proofs.deadline.resolve_by.Goals as goal

pub returns : goal.returns
returns c = resolve-is c.args.anchor.now c.args.day c.cycle_on.result c.closing-second.result c.plus.result c.sooner.result c.requires.dated c.cycle_on.ensures.value c.plus.ensures c.closing-second.ensures c.sooner.ensures.none c.sooner.ensures.some
