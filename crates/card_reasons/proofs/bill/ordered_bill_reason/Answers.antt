use Rattle.std.proofs.Common.{◌≡◌, ◌<◌, true, sym, ap, ◌∙◌, subst}
use Rattle.std.proofs.lemmas.List.Elements.{All-weaker}
use Rattle.card_events.specs.declared.kept.Kept.{Kept}
use Rattle.card_model.specs.Refusals.{IsBilledLater, bills}
use Rattle.card_reasons.specs.Reasons.{closed_reason}
use Rattle.card_reasons.proofs.ReasonLemmas.{no_closing, some_closing}
use Rattle.card_reasons.proofs.bill.ordered_bill_reason.Goals as goal

pub bill_number-earlier-requires-clause-billed : goal.bill_number-earlier-requires-clause-billed
bill_number-earlier-requires-clause-billed c =
    let a = c.args.anchor.now in
    let cycle = c.args.cycle in
    All-weaker (IsBilledLater a) (λ (k : Kept). bills cycle k.post ≡ true → c.in-Some.closing < k.accepted)
    (λ k h is. subst (λ day. day < k.accepted) (sym c.in-Some.ensures.1) (h cycle is)) c.args.posts.now.history c.requires.order.billed

pub returns-in-Some : goal.returns-in-Some
returns-in-Some c =
    let today = c.args.today in
    let posts = c.args.posts.now.history in
    let cycle = c.args.cycle in
    c.closed_reason.ensures cycle c.bill_number-earlier.ensures ∙ ap (λ day. closed_reason today day posts cycle) c.in-Some.ensures.1 ∙ some_closing today c.args.anchor.now posts cycle c.in-Some.ensures.0.0 c.in-Some.ensures.0.1

pub returns-in-None : goal.returns-in-None
returns-in-None c = no_closing c.args.today c.args.anchor.now c.args.posts.now.history c.args.cycle (λ low by. c.in-None.ensures (low, by))
