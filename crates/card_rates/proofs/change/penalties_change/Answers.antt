use Rattle.card_model.specs.Breaks.{breaks_penalty}
use Rattle.card_rates.proofs.Nearest.{next-more, next-nothing}
use Rattle.card_rates.proofs.change.penalties_change.Goals as goal

pub loop-penalty-init : goal.loop-penalty-init
loop-penalty-init c = next-nothing breaks_penalty c.args.first c.args.end c.requires

pub loop-penalty-preserved : goal.loop-penalty-preserved
loop-penalty-preserved c =
    next-more breaks_penalty c.args.penalties.now c.loop-penalty.penalty-index c.penalty-item.result c.args.first c.args.end c.loop-penalty.next c.penalty_change-next.result c.loop-penalty-test.true c.penalty-item.is
    c.loop-penalty.invariant c.penalty_change-next.ensures
