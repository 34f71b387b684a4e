use Rattle.std.proofs.Common.{◌≡◌, Bool, sym, ap, ◌∙◌, arith}
use Rattle.card_events.specs.Billing.{closing}
use Rattle.std.specs.Option.{option_map}
use Rattle.card_fees.proofs.Issued.{due-single}
use Rattle.card_fees.specs.Asked.{is_due_by}
use Rattle.card_model.specs.declared.due_cycle.DueCycle.{DueCycle}
use Rattle.card_events.specs.History.{anchor_of}
use Rattle.card_model.specs.Caps.{row_for}
use Rattle.card_model.specs.Cycles.{Cycle, IssuedRow}
use Rattle.card_daily.proofs.due.due_cycle.Goals as goal

abbrev told : Cycle → Bool → DueCycle
told c t = record { cycle = c.number; closing = c.closing; due = c.due; minimum = c.minimum; grace_amount = c.grace_amount; has_due_payment = t }

pub issued_since-requires : goal.issued_since-requires
issued_since-requires c =
    let a = anchor_of c.args.inputs.now.history in
    let number = ap (λ (x : Cycle). closing a x.number) c.cycle.view_is in
    let day = ap (λ (x : Cycle). x.closing) c.cycle.view_is ∙ c.requires.days.closing in
    omega (arith, day, number)

pub returns : goal.returns
returns c =
    let cycle = c.args.cycle.now in
    let rows = c.args.inputs.now.issued in
    let number : c.cycle.inside.number ≡ cycle.number = ap (λ (x : Cycle). x.number) c.cycle.view_is in
    let due : c.cycle.inside.due ≡ cycle.due = ap (λ (x : Cycle). x.due) c.cycle.view_is in
    let issued : c.issue_day-issued.result ≡ option_map (λ (r : IssuedRow). r.day) (row_for cycle.number rows) =
    c.issue_day-issued.ensures ∙ (ap (option_map (λ (r : IssuedRow). r.day)) c.issued_since.ensures ∙ ap (λ n. option_map (λ (r : IssuedRow). r.day) (row_for n rows)) number) in
    let has = c.is_due.ensures
    ∙ (ap (λ d. is_due_by d c.args.day c.issue_day-issued.result) due ∙ ap (is_due_by cycle.due c.args.day) issued
    ∙ sym (due-single rows c.args.day cycle c.anchor-anchor.ensures.sound.accepted.single)) in
    c.with_due_payment.ensures ∙ ap (told cycle) has
