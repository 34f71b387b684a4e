use Rattle.std.proofs.Common.{None, refl}
use Rattle.card_reasons.specs.Reasons.{judged_of}
use Rattle.card_reasons.proofs.ReasonLemmas.{by_parts, payment_reasons}
use Rattle.card_events.specs.declared.post.Post.TheVariants as post
use Rattle.card_reasons.proofs.reason.payment_reason.Goals as goal

pub returns : goal.returns
returns c shared issued by =
    let now = judged_of c.args.today shared issued c.args.posts.now.history in
    by_parts now (post.Payment c.args.day c.args.minute by c.args.cents) c.args.day _ c.is_no_payment-out.result _ None c.args.opened c.in_order.result (payment_reasons now c.args.day c.args.minute c.args.cents by) c.is_no_payment-out.ensures
    c.requires refl c.in_order.ensures
