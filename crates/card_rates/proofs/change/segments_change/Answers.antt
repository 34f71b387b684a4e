use Rattle.card_model.specs.Breaks.{breaks_segment}
use Rattle.card_rates.proofs.Nearest.{next-more, next-nothing}
use Rattle.card_rates.proofs.change.segments_change.Goals as goal

pub loop-g-init : goal.loop-g-init
loop-g-init c = next-nothing breaks_segment c.args.first c.args.end c.requires

pub loop-g-preserved : goal.loop-g-preserved
loop-g-preserved c =
    next-more breaks_segment c.args.segments.now c.loop-g.g-index c.g-item.result c.args.first c.args.end c.loop-g.next c.segment_change-next.result c.loop-g-test.true c.g-item.is
    c.loop-g.invariant c.segment_change-next.ensures
