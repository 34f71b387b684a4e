use Rattle.std.proofs.Common.{◌≡◌, ◌+◌, suc, ap, arith}
use Rattle.card_events.specs.Billing.{closing}
use Rattle.card_daily.proofs.Cycles.{closing-within}
use Rattle.card_model.proofs.Calendar.{is-anchor}
use Rattle.card_reasons.proofs.ClosingLemmas.{grown}
use Rattle.card_past.proofs.folding.closing_by.Goals as goal

pub overflow_cast-number : goal.overflow_cast-number
overflow_cast-number c = let few = grown c.args.anchor.now c.args.closed in omega (arith, few, c.requires.folded, c.requires.last)

pub overflow_add-number : goal.overflow_add-number
overflow_add-number c = let few = grown c.args.anchor.now c.args.closed in omega (arith, few, c.requires.folded, c.requires.last)

pub closing_date-next-requires-clause-in_calendar : goal.closing_date-next-requires-clause-in_calendar
closing_date-next-requires-clause-in_calendar c =
    let a = c.args.anchor.now in
    let folded = c.requires.folded in
    let last = c.requires.last in
    let most = closing-within a (is-anchor a c.requires.opening) c.args.closed (c.args.to + 1) (omega (arith, folded)) (omega (arith, last)) in
    let next : c.args.closed + 1 ≡ suc c.args.closed = omega arith in
    let same = ap (closing a) next in
    omega (arith, most, same, last)
