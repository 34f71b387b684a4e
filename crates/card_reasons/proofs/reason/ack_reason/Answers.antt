use Rattle.std.proofs.Common.{false, refl}
use Rattle.card_reasons.specs.Reasons.{judged_of}
use Rattle.card_reasons.proofs.ReasonLemmas.{by_parts, ack_reasons}
use Rattle.card_events.specs.declared.post.Post.TheVariants as post
use Rattle.card_reasons.proofs.reason.ack_reason.Goals as goal

pub returns : goal.returns
returns c shared issued =
    let now = judged_of c.args.today shared issued c.args.posts.now.history in
    by_parts now (post.Ack c.args.day c.args.dispute) c.args.day _ false _ c.open_dispute-added.result c.args.opened c.in_order.result (ack_reasons now c.args.day c.args.dispute) refl
    c.requires (c.open_dispute-added.ensures.acks now c.args.day refl) c.in_order.ensures
