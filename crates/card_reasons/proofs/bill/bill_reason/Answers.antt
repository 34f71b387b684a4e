use Rattle.std.proofs.Common.{ap, ◌∙◌}
use Rattle.card_reasons.specs.Reasons.{closed_reason}
use Rattle.card_reasons.proofs.ReasonLemmas.{no_closing, some_closing}
use Rattle.card_reasons.proofs.bill.bill_reason.Goals as goal

pub returns-in-Some : goal.returns-in-Some
returns-in-Some c =
    let today = c.args.today in
    let posts = c.args.posts.now.history in
    let cycle = c.args.cycle in
    c.closed_reason.ensures cycle c.bill_behind-earlier.ensures ∙ ap (λ day. closed_reason today day posts cycle) c.in-Some.ensures.1 ∙ some_closing today c.args.anchor.now posts cycle c.in-Some.ensures.0.0 c.in-Some.ensures.0.1

pub returns-in-None : goal.returns-in-None
returns-in-None c = no_closing c.args.today c.args.anchor.now c.args.posts.now.history c.args.cycle (λ low by. c.in-None.ensures (low, by))
