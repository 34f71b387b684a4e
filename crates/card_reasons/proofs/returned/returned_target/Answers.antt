use Rattle.std.proofs.Common.{List, ap, sym, ◌∙◌}
use Rattle.card_reasons.proofs.ReturnLemmas.{returned_by}
use Rattle.card_reasons.proofs.returned.returned_target.Goals as goal
use Rattle.card_events.specs.History.{at_number}
use Rattle.card_events.specs.declared.kept.Kept.{Kept}
use Rattle.card_fees.specs.Counting.{is_payment_at}
use Rattle.card_model.specs.Payments as spec
use Rattle.card_model.specs.Refusals.{number_from}

pub returns : goal.returns
returns c now day same =
    c.reason_for.ensures
    ∙ returned_by now day c.args.target c.is_payment_named-fits.result c.first_waiting-earlier.result (c.is_payment_named-fits.ensures ∙ ap (λ (h : List Kept). is_payment_at (at_number c.args.target h)) (sym same))
    (c.first_waiting-earlier.ensures ∙ (ap (λ n. number_from (spec.returns n) 1 c.args.posts.now.history) c.get.ensures.value ∙ ap (number_from (spec.returns c.args.target) 1) (sym same)))
