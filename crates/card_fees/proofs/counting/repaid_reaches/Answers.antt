use Rattle.std.proofs.Common.{sym, ◌∙◌}
use Rattle.card_model.specs.Payments.{counted, credited}
use Rattle.card_fees.proofs.SlotSums.{both-reach, one-reaches}
use Rattle.card_fees.proofs.counting.repaid_reaches.Goals as goal

pub returns-then-is_enough : goal.returns-then-is_enough
returns-then-is_enough c holidays stands =
    let listed = c.args.posts.now.corrected in
    one-reaches c.args.amount c.counted_up_to-paid.result (counted listed c.args.from c.args.to) (credited listed c.args.from c.args.to) (c.counted_up_to-paid.ensures.value holidays stands) (sym c.is_enough.ensures ∙ c.if-is_enough.true)

pub returns : goal.returns
returns c holidays stands =
    let listed = c.args.posts.now.corrected in
    both-reach c.args.amount c.counted_up_to-paid.result c.credited_between.result (counted listed c.args.from c.args.to) (credited listed c.args.from c.args.to) (c.counted_up_to-paid.ensures.value holidays stands) (sym c.is_enough.ensures ∙ c.if-is_enough.false) (c.credited_between.ensures.value holidays stands)
