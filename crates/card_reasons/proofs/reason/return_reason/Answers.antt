use Rattle.std.proofs.Common.{false, refl}
use Rattle.card_reasons.specs.Reasons.{judged_of}
use Rattle.card_reasons.proofs.ReasonLemmas.{by_parts, return_reasons}
use Rattle.card_events.specs.declared.post.Post.TheVariants as post
use Rattle.card_reasons.proofs.reason.return_reason.Goals as goal

pub returns : goal.returns
returns c shared issued =
    let now = judged_of c.args.today shared issued c.args.posts.now.history in
    by_parts now (post.Return c.args.day c.args.target) c.args.day _ false _ c.returned_target-added.result c.args.opened c.in_order.result (return_reasons now c.args.day c.args.target) refl
    c.requires (c.returned_target-added.ensures now c.args.day refl) c.in_order.ensures
