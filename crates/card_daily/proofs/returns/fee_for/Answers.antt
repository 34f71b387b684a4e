use Rattle.std.proofs.Common.{◌≤◌, refl, sym, ap, ◌∙◌, subst, arith}
use Rattle.std.specs.Prelude.{option_copied}
use Rattle.card_events.specs.Billing.{closing, cycle_of}
use Rattle.card_events.specs.History.{anchor_of}
use Rattle.card_fees.specs.DueLaws.{issued_fees}
use Rattle.card_model.specs.Cycles.{Cycle}
use Rattle.card_model.specs.Fees.{charged_by, fees_for, last_due}
use Rattle.card_model.specs.Payments.{asked}
use Rattle.card_daily.proofs.Charging.{by-parts, counted-cycles, due-by, fee-is, few-cycles}
use Rattle.card_daily.proofs.Following.{upto-closing}
use Rattle.card_daily.specs.Given.{seen_in}
use Rattle.card_daily.proofs.returns.fee_for.Goals as goal

pub asked_by-least-requires-clause-due : goal.asked_by-least-requires-clause-due
asked_by-least-requires-clause-due c x e =
    due-by c.args.inputs.now c.args.day x c.args.cycles.now c.anchor-anchor.ensures.sound c.requires.closed.dated.opened c.requires.closed.dated.last c.requires.closed.cycles (sym c.due_before.ensures ∙ e)

pub overflow_add-cycles : goal.overflow_add-cycles
overflow_add-cycles c =
    let few = few-cycles c.args.inputs.now c.args.day c.args.cycles.now c.anchor-anchor.ensures.sound c.requires.closed.dated.opened c.requires.closed.dated.last c.requires.closed.cycles in
    omega (arith, few)

pub issued_since-requires : goal.issued_since-requires
issued_since-requires c =
    let s = c.anchor-anchor.ensures.sound in
    let g = c.args.inputs.now in
    let count = counted-cycles g c.args.day c.args.cycles.now s c.requires.closed.dated.opened c.requires.closed.cycles in
    subst (λ n. c.args.day ≤ closing (anchor_of g.history) n) (sym count) (upto-closing (anchor_of g.history) c.args.day s.opening c.requires.closed.dated.opened c.requires.closed.dated.last)

pub returns-in-Some : goal.returns-in-Some
returns-in-Some c b own fees =
    let g = c.args.inputs.now in
    let day = c.args.day in
    let meant = c.args.meant.now in
    let cycles = c.args.cycles.now in
    let i = option_copied c.fees_of-issued.result in
    let least = asked (seen_in g day).issued (last_due day cycles) in
    let issued = c.fees_of-issued.ensures ∙ ap issued_fees c.issued_since.ensures in
    let number = ap (λ (x : Cycle). x.number) c.meant.view_is in
    let asks = c.asked_by-least.ensures ∙ ap (asked (seen_in g day).issued) c.due_before.ensures in
    c.capped_fee.ensures
    ∙ (ap (charged_by fees_for i) (sym c.in-Some.is ∙ c.returned_fee.ensures)
    ∙ (by-parts c.fees.result.now c.args.fees.now i _ meant.number (cycle_of c.anchor-anchor.result day) day _ meant.minimum _ least number c.minimum_of.ensures asks
    ∙ fee-is g day meant b c.fees.result.now i c.args.fees.now c.anchor-anchor.result cycles least c.anchor-anchor.ensures.sound c.requires.closed.dated.opened c.requires.closed.dated.last c.requires.closed.cycles own fees c.fees.ensures issued c.anchor-anchor.ensures.value refl))

pub returns-in-None : goal.returns-in-None
returns-in-None c b own fees =
    let g = c.args.inputs.now in
    let day = c.args.day in
    let meant = c.args.meant.now in
    let cycles = c.args.cycles.now in
    let i = option_copied c.fees_of-issued.result in
    let least = asked (seen_in g day).issued (last_due day cycles) in
    let issued = c.fees_of-issued.ensures ∙ ap issued_fees c.issued_since.ensures in
    let number = ap (λ (x : Cycle). x.number) c.meant.view_is in
    let asks = c.asked_by-least.ensures ∙ ap (asked (seen_in g day).issued) c.due_before.ensures in
    ap (charged_by fees_for i) (sym c.in-None.is ∙ c.returned_fee.ensures)
    ∙ (by-parts c.fees.result.now c.args.fees.now i _ meant.number (cycle_of c.anchor-anchor.result day) day _ meant.minimum _ least number c.minimum_of.ensures asks
    ∙ fee-is g day meant b c.fees.result.now i c.args.fees.now c.anchor-anchor.result cycles least c.anchor-anchor.ensures.sound c.requires.closed.dated.opened c.requires.closed.dated.last c.requires.closed.cycles own fees c.fees.ensures issued c.anchor-anchor.ensures.value refl)
