use Rattle.std.proofs.Common.{nat_lt, ap, ◌∙◌}
use Rattle.card_model.specs.Payments.{counted}
use Rattle.card_fees.proofs.SlotSums.{below-min}
use Rattle.card_fees.proofs.due.falls_short.Goals as goal

pub returns : goal.returns
returns c holidays stands =
    ap (λ n. nat_lt n c.args.minimum) (c.counted_up_to.ensures.value holidays stands)
    ∙ below-min c.args.minimum (counted c.args.posts.now.corrected c.args.from c.args.to)
