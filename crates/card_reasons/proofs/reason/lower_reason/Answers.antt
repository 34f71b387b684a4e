use Rattle.std.proofs.Common.{None, refl}
use Rattle.card_reasons.specs.Reasons.{judged_of}
use Rattle.card_reasons.proofs.ReasonLemmas.{by_parts, lower_reasons}
use Rattle.card_events.specs.declared.post.Post.TheVariants as post
use Rattle.card_reasons.proofs.reason.lower_reason.Goals as goal

pub returns : goal.returns
returns c shared issued category =
    let now = judged_of c.args.today shared issued c.args.posts.now.history in
    by_parts now (post.Lower c.args.day category c.args.rate) c.args.day _ c.is_no_rate-out.result _ None c.args.opened c.in_order.result (lower_reasons now c.args.day c.args.rate category) c.is_no_rate-out.ensures
    c.requires refl c.in_order.ensures
