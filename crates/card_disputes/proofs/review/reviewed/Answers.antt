use Rattle.std.proofs.Common.{◌+◌, ◌<◌, length, ◌∙◌, ap, arith}
use Rattle.card_disputes.specs.Increases.{review_at}
use Rattle.card_disputes.proofs.ReviewLemmas.{last-step}
use Rattle.card_events.specs.History.{at_number}
use Rattle.card_disputes.proofs.review.reviewed.Goals as goal

pub loop-i-preserved : goal.loop-i-preserved
loop-i-preserved c =
    let low : c.loop-i.i < length c.args.posts.now.history = omega (arith, c.loop-i-test.true, c.len-i-end.ensures.value) in
    c.reviewed_at-last.ensures ∙ ap (review_at (at_number (c.loop-i.i + 1) c.args.posts.now.history)) c.loop-i.invariant
    ∙ last-step c.args.day c.loop-i.i c.args.posts.now.history low
