use Rattle.std.proofs.Common.{refl}
use Rattle.card_reasons.specs.Reasons.{judged_of}
use Rattle.card_reasons.proofs.ReasonLemmas.{by_parts, credit_reasons}
use Rattle.card_events.specs.declared.post.Post.TheVariants as post
use Rattle.card_reasons.proofs.reason.credit_reason.Goals as goal

pub returns : goal.returns
returns c shared issued =
    let now = judged_of c.args.today shared issued c.args.posts.now.history in
    by_parts now (post.Credit c.args.day c.args.place.now c.args.cents) c.args.day _ c.is_no_amount-out.result _ c.credited_place-added.result c.args.opened c.in_order.result (credit_reasons now c.args.day c.args.cents c.args.place.now) c.is_no_amount-out.ensures
    c.requires (c.credited_place-added.ensures now c.args.day c.args.cents refl) c.in_order.ensures
