use Rattle.std.proofs.Common.{refl}
use Rattle.card_reasons.specs.Reasons.{judged_of}
use Rattle.card_reasons.proofs.ReasonLemmas.{by_parts, amend_reasons}
use Rattle.card_events.specs.declared.post.Post.TheVariants as post
use Rattle.card_reasons.proofs.reason.amend_reason.Goals as goal

pub returns : goal.returns
returns c shared issued =
    let now = judged_of c.args.today shared issued c.args.posts.now.history in
    by_parts now (post.Amend c.args.target c.args.day c.args.cents) c.args.day _ c.is_no_correction-out.result _ c.amended_target-added.result c.args.opened c.in_order.result (amend_reasons now c.args.target c.args.day c.args.cents) c.is_no_correction-out.ensures
    c.requires (c.amended_target-added.ensures now c.args.cents refl) c.in_order.ensures
