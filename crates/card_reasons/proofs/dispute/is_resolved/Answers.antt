use Rattle.std.proofs.Common.{List, ap, sym, ◌∙◌}
use Rattle.std.specs.List.{list_any}
use Rattle.card_disputes.proofs.FirstWaiting.{found_any, found_none}
use Rattle.card_events.specs.declared.kept.Kept.{Kept}
use Rattle.card_model.specs.Deadlines.{resolves}
use Rattle.card_model.specs.Refusals.{number_from}
use Rattle.card_reasons.proofs.dispute.is_resolved.Goals as goal

pub returns-in-Some : goal.returns-in-Some
returns-in-Some c now same =
    let history = c.args.posts.now.history in
    found_any (resolves c.args.dispute) _ history (ap (λ n. number_from (resolves n) 1 history) (sym c.get.ensures.value) ∙ (sym c.first_waiting.ensures ∙ c.in-Some.is)) ∙ ap (λ (h : List Kept). list_any (λ k. resolves c.args.dispute k.post) h) (sym same)

pub returns-in-None : goal.returns-in-None
returns-in-None c now same =
    let history = c.args.posts.now.history in
    found_none (resolves c.args.dispute) history (ap (λ n. number_from (resolves n) 1 history) (sym c.get.ensures.value) ∙ (sym c.first_waiting.ensures ∙ c.in-None.is)) ∙ ap (λ (h : List Kept). list_any (λ k. resolves c.args.dispute k.post) h) (sym same)
