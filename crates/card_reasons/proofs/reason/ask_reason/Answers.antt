use Rattle.std.proofs.Common.{None, false, refl}
use Rattle.card_reasons.specs.Reasons.{judged_of}
use Rattle.card_reasons.proofs.ReasonLemmas.{by_parts, ask_reasons}
use Rattle.card_events.specs.declared.post.Post.TheVariants as post
use Rattle.card_reasons.proofs.reason.ask_reason.Goals as goal

pub returns : goal.returns
returns c shared issued =
    let now = judged_of c.args.today shared issued c.args.posts.now.history in
    by_parts now (post.AskRefund c.args.day) c.args.day _ false _ None c.args.opened c.in_order.result (ask_reasons now c.args.day) refl
    c.requires refl c.in_order.ensures
