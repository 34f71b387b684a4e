use Rattle.std.proofs.Common.{ap, sym, ◌∙◌}
use Rattle.card_reasons.proofs.PlaceLemmas.{target_none, target_some}
use Rattle.card_reasons.proofs.amend.amended_target.Goals as goal
use Rattle.card_events.specs.History.{at_number}

pub returns-in-Some : goal.returns-in-Some
returns-in-Some c now cents same =
    c.reason_for.ensures
    ∙ target_some now c.args.target c.args.day cents c.in-Some.kept.now c.is_outside_charge-outside.result c.may_be_amended.result (ap (at_number c.args.target) same ∙ sym c.in-Some.ensures) (c.is_outside_charge-outside.ensures now same)
    (c.may_be_amended.ensures c.args.target c.args.day cents)

pub returns-in-None : goal.returns-in-None
returns-in-None c now cents same = c.reason_for-in-None.ensures ∙ target_none now c.args.target c.args.day cents (ap (at_number c.args.target) same ∙ sym c.in-None.ensures)
