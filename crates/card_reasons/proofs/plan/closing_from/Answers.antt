use Rattle.std.proofs.Common.{ap, arith, ◌∙◌}
use Rattle.card_events.specs.Range.{last_request_day}
use Rattle.card_reasons.proofs.PlanLemmas.{closing-at, next-most, some-of, value-of}
use Rattle.card_reasons.proofs.plan.closing_from.Goals as goal
use Rattle.card_events.specs.Billing.{closing, next_on}

pub unwrap-requires : goal.unwrap-requires
unwrap-requires c =
    let a = c.args.anchor.now in
    let from = c.later_of-from.result in
    let high = c.later_of-from.ensures.until last_request_day c.requires.last c.requires.opened in
    let at = closing-at a c.number.ensures.first c.requires.opened c.requires.close_day from c.later_of-from.ensures.from high in
    let same = ap (closing a) c.cycle_of.ensures.value in
    let most = next-most a.close_day from in
    some-of c.closing.result _ _ c.closing.ensures (c.cycle_of.ensures.from_one, omega (arith, most, at, same, high))

pub returns : goal.returns
returns c =
    let a = c.args.anchor.now in
    let from = c.later_of-from.result in
    let high = c.later_of-from.ensures.until last_request_day c.requires.last c.requires.opened in
    let at = closing-at a c.number.ensures.first c.requires.opened c.requires.close_day from c.later_of-from.ensures.from high in
    value-of c.closing.result _ _ c.unwrap.result c.closing.ensures c.unwrap.ensures ∙ ap (closing a) c.cycle_of.ensures.value ∙ at ∙ ap (next_on a.close_day) c.later_of-from.ensures.value
