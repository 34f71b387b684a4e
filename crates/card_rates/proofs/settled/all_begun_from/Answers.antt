use Rattle.std.proofs.Common.{take, ◌+◌, sym, subst}
use Rattle.std.specs.List.{All}
use Rattle.card_rates.specs.Settled.{HasBegun}
use Rattle.card_rates.proofs.Settling.{begun-more}
use Rattle.card_rates.proofs.settled.all_begun_from.Goals as goal

pub loop-g-preserved : goal.loop-g-preserved
loop-g-preserved c =
    subst (λ day. All (HasBegun day) (take (c.loop-g.g-index + 1) c.args.segments.now)) (sym c.max-from.ensures)
    (begun-more c.args.segments.now c.loop-g.g-index c.loop-g.from c.in-Some.day c.g-item.result c.loop-g-test.true c.g-item.is c.loop-g.invariant c.in-Some.ensures)
