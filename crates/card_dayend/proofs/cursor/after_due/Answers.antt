use Rattle.std.proofs.Common.{arith}
use Rattle.card_dayend.proofs.BreakDays.{due-small}
use Rattle.card_dayend.proofs.cursor.after_due.Goals as goal

pub due_date-requires-clause-in_calendar : goal.due_date-requires-clause-in_calendar
due_date-requires-clause-in_calendar c =
    let small = due-small c.args.anchor.now c.args.number c.args._day c.requires in
    let last = c.requires.last in
    omega (arith, small, last)

pub next-requires : goal.next-requires
next-requires c =
    let small = due-small c.args.anchor.now c.args.number c.args._day c.requires in
    let last = c.requires.last in
    omega (arith, small, last, c.due_date.ensures)
