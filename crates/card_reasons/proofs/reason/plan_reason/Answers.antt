use Rattle.std.proofs.Common.{ap, refl}
use Rattle.card_reasons.specs.Reasons.{judged_of}
use Rattle.card_reasons.proofs.ReasonLemmas.{by_parts, plan_reasons}
use Rattle.card_events.specs.declared.post.Post.TheVariants as post
use Rattle.card_events.specs.declared.anchor.Anchor.{Anchor}
use Rattle.card_reasons.proofs.reason.plan_reason.Goals as goal

pub returns : goal.returns
returns c shared issued kind =
    let now = judged_of c.args.today shared issued c.args.posts.now.history in
    by_parts now (post.Plan c.args.day kind c.args.rate c.args.end c.args.after) c.args.day _ c.are_no_rates-out.result _ c.plan_end-added.result c.args.anchor.now.opened c.in_order.result (plan_reasons now c.args.day c.args.rate c.args.end c.args.after kind) c.are_no_rates-out.ensures
    (ap (λ (a : Anchor). a.opened) c.requires.cycles.anchor) (c.plan_end-added.ensures now kind c.args.rate c.args.after refl) c.in_order.ensures
