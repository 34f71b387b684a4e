use Rattle.std.proofs.Common.{◌≡◌, ◌∙◌, arith, sym}
use Rattle.card_events.specs.Business.{next_business}
use Rattle.card_events.proofs.Business.{starts, small, goes_on, stops, next_business-later, next_business-near}
use Rattle.card_events.proofs.calendar.next_business.Goals as goal

pub loop-next-init : goal.loop-next-init
loop-next-init c = starts c.args.cal.now c.args.day c.next-next.result c.next-next.ensures

pub next-next-requires-in-loop-next : goal.next-next-requires-in-loop-next
next-next-requires-in-loop-next c = omega (arith, small c.args.cal.now c.args.day c.loop-next.next c.is_business.ensures.holidays c.requires c.loop-next.invariant)

pub loop-next-preserved : goal.loop-next-preserved
loop-next-preserved c =
    goes_on c.args.cal.now c.args.day c.loop-next.next c.next-next-in-loop-next.result c.is_business.ensures.holidays c.requires c.loop-next.invariant (sym c.is_business.ensures.value ∙ c.loop-next-test.true) c.next-next-in-loop-next.ensures

stopped : (c : goal.After-loop-next) → c.loop-next.next ≡ next_business c.args.cal.now c.args.day
stopped c = stops c.args.cal.now c.args.day c.loop-next.next c.is_business.ensures.holidays c.requires c.loop-next.invariant (sym c.is_business.ensures.value ∙ c.loop-next-test.false)

pub returns-clause-value : goal.returns-clause-value
returns-clause-value c = stopped c

pub returns-clause-later : goal.returns-clause-later
returns-clause-later c = omega (arith, stopped c, next_business-later c.args.cal.now c.args.day)

pub returns-clause-near : goal.returns-clause-near
returns-clause-near c = omega (arith, stopped c, next_business-near c.args.cal.now c.args.day c.is_business.ensures.holidays)
