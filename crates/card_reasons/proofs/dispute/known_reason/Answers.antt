use Rattle.std.proofs.Common.{ap, sym, ◌∙◌}
use Rattle.card_events.specs.History.{disputes}
use Rattle.card_model.specs.Refusals.{number_from}
use Rattle.card_reasons.proofs.DisputeLemmas.{known_none, known_some}
use Rattle.card_reasons.proofs.dispute.known_reason.Goals as goal

pub returns-in-Some : goal.returns-in-Some
returns-in-Some c now day cents same =
    let history = c.args.posts.now.history in
    known_some now day c.args.charge cents c.in-Some.number history same (ap (λ n. number_from (disputes n) 1 history) (sym c.get.ensures.value) ∙ (sym c.first_waiting.ensures ∙ c.in-Some.is))

pub returns-in-None : goal.returns-in-None
returns-in-None c now day cents same =
    let history = c.args.posts.now.history in
    known_none now day c.args.charge cents history same (ap (λ n. number_from (disputes n) 1 history) (sym c.get.ensures.value) ∙ (sym c.first_waiting.ensures ∙ c.in-None.is))
