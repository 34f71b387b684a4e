use Rattle.card_reasons.proofs.DisputeLemmas.{has_same, nothing, to_review}
use Rattle.card_reasons.proofs.review.review_day.Goals as goal

pub returns-then-has_increase : goal.returns-then-has_increase
returns-then-has_increase c now found same stands =
    to_review now c.args.day found c.has_increase.result (has_same now c.args.posts.now c.args.day c.has_increase.result same stands (c.has_increase.ensures now.shared.holidays stands)) c.if-has_increase.true

pub returns-else-has_increase : goal.returns-else-has_increase
returns-else-has_increase c now found same stands =
    nothing now c.args.day found c.has_increase.result (has_same now c.args.posts.now c.args.day c.has_increase.result same stands (c.has_increase.ensures now.shared.holidays stands)) c.if-has_increase.false
