use Rattle.std.proofs.Common.{refl}
use Rattle.card_reasons.specs.Reasons.{judged_of}
use Rattle.card_reasons.proofs.ReasonLemmas.{by_parts, resolve_reasons}
use Rattle.card_events.specs.declared.post.Post.TheVariants as post
use Rattle.card_reasons.proofs.reason.resolve_reason.Goals as goal

pub returns : goal.returns
returns c shared issued =
    let now = judged_of c.args.today shared issued c.args.posts.now.history in
    by_parts now (post.Resolve c.args.day c.args.dispute c.args.cents) c.args.day _ c.is_no_finding-out.result _ c.open_dispute-added.result c.args.opened c.in_order.result (resolve_reasons now c.args.day c.args.dispute c.args.cents) (c.is_no_finding-out.ensures now refl)
    c.requires (c.open_dispute-added.ensures.resolves now c.args.day c.args.cents refl) c.in_order.ensures
