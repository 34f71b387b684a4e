use Rattle.std.proofs.Common.{◌∙◌, ◌-◌, Some, arith, ap, subst, sym}
use Rattle.card_events.specs.Civil.{date_of}
use Rattle.card_events.specs.Months.{IsLastDue, month_from, day_in_month, first_month}
use Rattle.card_events.proofs.Cycles.{IsAnchor}
use Rattle.card_events.proofs.DueDays.{last_due-none, last_due-some}
use Rattle.card_events.proofs.MailDays.{last_due-answer, answer-opened}
use Rattle.card_events.proofs.credit.last_due.Goals as goal

pub returns-then-next-first-clause-last : goal.returns-then-next-first-clause-last
unfolding first_month
returns-then-next-first-clause-last c =
    let at = c.month_from.ensures in
    let h : IsAnchor c.args.a = record { first = at.first; last = at.last; low = c.requires.close_day.0; high = c.requires.close_day.1 } in
    let next = c.month_from-next.ensures.value ∙ ap (λ e. month_from e (date_of c.args.day)) c.due_place-later.ensures.day in
    last_due-none c.args.a h c.args.day c.month_from-next.ensures.first c.month_from-next.ensures.last (omega (arith, next, at.value, c.due_place-later.ensures.later, c.if-next-first.true))

found : (c : goal.After-day_in_month) → IsLastDue c.args.a c.args.day c.day_in_month.result
unfolding first_month
found c =
    let at = c.month_from.ensures in
    let h : IsAnchor c.args.a = record { first = at.first; last = at.last; low = c.requires.close_day.0; high = c.requires.close_day.1 } in
    let e = c.due_place-later.ensures.day in
    let next = c.month_from-next.ensures.value ∙ ap (λ e. month_from e (date_of c.args.day)) e in
    let last = last_due-some c.args.a h c.args.day c.month_from-next.ensures.first c.month_from-next.ensures.last (omega (arith, next, at.value, c.due_place-later.ensures.later, c.if-next-first.false)) (c.month_from-next.result - 1) (ap (λ n. n - 1) next) in
    last_due-answer c.day_in_month.result _ c.args.a c.args.day _ c.day_in_month.ensures (omega (arith, at.low, c.if-next-first.false), omega (arith, c.month_from-next.ensures.high))
    (subst (λ u. IsLastDue c.args.a c.args.day (Some (day_in_month (c.month_from-next.result - 1) u))) (sym e) last)

pub returns-clause-last : goal.returns-clause-last
returns-clause-last c = found c

pub returns-clause-from_opening : goal.returns-clause-from_opening
returns-clause-from_opening c = answer-opened c.day_in_month.result c.args.a c.args.day (omega (arith, c.month_from.ensures.first)) (found c)
