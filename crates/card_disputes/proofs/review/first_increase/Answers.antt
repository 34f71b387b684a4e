use Rattle.std.proofs.Common.{◌+◌, ◌<◌, length, ◌∙◌, ap, arith}
use Rattle.card_disputes.specs.Increases.{increase_at, least_of}
use Rattle.card_disputes.proofs.ReviewLemmas.{first-step}
use Rattle.card_events.specs.History.{at_number}
use Rattle.card_disputes.proofs.review.first_increase.Goals as goal

pub loop-i-preserved : goal.loop-i-preserved
loop-i-preserved c =
    let low : c.loop-i.i < length c.args.posts.now.history = omega (arith, c.loop-i-test.true, c.len-i-end.ensures.value) in
    c.least_of-first.ensures ∙ ap (least_of c.loop-i.first) c.increase_at.ensures
    ∙ ap (λ o. least_of o (increase_at c.args.day (at_number (c.loop-i.i + 1) c.args.posts.now.history))) c.loop-i.invariant
    ∙ first-step c.args.day c.loop-i.i c.args.posts.now.history low
