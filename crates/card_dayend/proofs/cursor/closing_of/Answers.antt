use Rattle.std.proofs.Common.{arith}
use Rattle.card_dayend.proofs.BreakDays.{closing-small}
use Rattle.card_dayend.proofs.cursor.closing_of.Goals as goal

pub closing_date-requires-clause-in_calendar : goal.closing_date-requires-clause-in_calendar
closing_date-requires-clause-in_calendar c =
    let h = c.requires in
    let small = closing-small c.args.anchor.now c.args.number c.args._day h in
    let last = h.last in
    omega (arith, small, last)
