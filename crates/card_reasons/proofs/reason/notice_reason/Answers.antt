use Rattle.std.proofs.Common.{ap, refl}
use Rattle.card_reasons.specs.Reasons.{judged_of}
use Rattle.card_reasons.proofs.ReasonLemmas.{by_parts, notice_reasons}
use Rattle.card_events.specs.declared.post.Post.TheVariants as post
use Rattle.card_events.specs.declared.anchor.Anchor.{Anchor}
use Rattle.card_reasons.proofs.reason.notice_reason.Goals as goal

pub returns : goal.returns
returns c shared issued =
    let now = judged_of c.args.today shared issued c.args.posts.now.history in
    by_parts now (post.Notice c.args.day c.args.category c.args.rate c.args.effective) c.args.day _ c.is_no_rate-out.result _ c.noticed-added.result c.args.anchor.now.opened c.in_order.result (notice_reasons now c.args.day c.args.rate c.args.effective c.args.category) c.is_no_rate-out.ensures
    (ap (λ (a : Anchor). a.opened) c.requires.anchor) (c.noticed-added.ensures now c.args.rate refl) c.in_order.ensures
