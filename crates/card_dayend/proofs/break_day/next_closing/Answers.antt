use Rattle.std.proofs.Common.{arith}
use Rattle.card_dayend.proofs.BreakDays.{next-within}
use Rattle.card_dayend.proofs.Held.{held-closing}
use Rattle.card_dayend.proofs.break_day.next_closing.Goals as goal

pub returns-clause-next : goal.returns-clause-next
returns-clause-next c a h = held-closing a c.args.dates.now c.args.first c.args.end c.next_at.result h c.next_at.ensures

pub returns-clause-within : goal.returns-clause-within
returns-clause-within c a h =
    let upto = h.upto in
    let closes = h.dates.closes in
    let low = next-within c.args.dates.now.closing c.args.first c.args.end c.next_at.result upto c.next_at.ensures in
    omega (arith, low, closes)
