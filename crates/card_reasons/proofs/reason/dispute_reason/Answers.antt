use Rattle.std.proofs.Common.{ap, refl}
use Rattle.card_reasons.specs.Reasons.{judged_of}
use Rattle.card_reasons.proofs.ReasonLemmas.{by_parts, dispute_reasons}
use Rattle.card_events.specs.declared.post.Post.TheVariants as post
use Rattle.card_events.specs.declared.anchor.Anchor.{Anchor}
use Rattle.card_reasons.proofs.reason.dispute_reason.Goals as goal

pub returns : goal.returns
returns c shared issued stands =
    let now = judged_of c.args.today shared issued c.args.posts.now.history in
    by_parts now (post.Dispute c.args.day c.args.charge c.args.cents) c.args.day _ c.is_no_amount-out.result _ c.disputed_charge-added.result c.args.anchor.now.opened c.in_order.result (dispute_reasons now c.args.day c.args.charge c.args.cents) c.is_no_amount-out.ensures
    (ap (λ (a : Anchor). a.opened) c.requires.posts.anchor) (c.disputed_charge-added.ensures now c.args.cents refl stands) c.in_order.ensures
