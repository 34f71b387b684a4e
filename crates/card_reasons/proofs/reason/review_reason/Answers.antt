use Rattle.std.proofs.Common.{false, refl}
use Rattle.card_reasons.specs.Reasons.{judged_of}
use Rattle.card_reasons.proofs.ReasonLemmas.{by_parts, review_reasons}
use Rattle.card_events.specs.declared.post.Post.TheVariants as post
use Rattle.card_reasons.proofs.reason.review_reason.Goals as goal

pub returns : goal.returns
returns c found shared issued stands =
    let now = judged_of c.args.today shared issued c.args.posts.now.history in
    by_parts now (post.Review c.args.day found) c.args.day _ false _ c.review_day-added.result c.args.opened c.in_order.result (review_reasons now c.args.day found) refl
    c.requires (c.review_day-added.ensures now found refl stands) c.in_order.ensures
