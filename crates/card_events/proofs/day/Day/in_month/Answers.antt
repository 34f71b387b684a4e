use Rattle.std.proofs.Common.{◌+◌, arith}
use Rattle.card_events.proofs.Starts.{day-range, day_from_first}
use Rattle.card_events.proofs.day.Day.in_month.Goals as goal

pub overflow_add-result : goal.overflow_add-result
overflow_add-result c =
    let range = day-range c.args.month c.args.d c.requires.month c.requires.day (omega (arith, c.length_of.ensures, c.if-d-length_of.false)) in
    omega (arith, range.1, day_from_first (24_132 + c.args.month) c.args.d c.requires.day, c.start_of.ensures)

pub overflow_add-result-2 : goal.overflow_add-result-2
overflow_add-result-2 c =
    let range = day-range c.args.month c.args.d c.requires.month c.requires.day (omega (arith, c.length_of.ensures, c.if-d-length_of.false)) in
    omega (arith, range.1, day_from_first (24_132 + c.args.month) c.args.d c.requires.day, c.start_of.ensures)

pub invariant_of-result : goal.invariant_of-result
invariant_of-result c =
    let range = day-range c.args.month c.args.d c.requires.month c.requires.day (omega (arith, c.length_of.ensures, c.if-d-length_of.false)) in
    let from = day_from_first (24_132 + c.args.month) c.args.d c.requires.day in
    (omega arith, omega (arith, range.1, from, c.start_of.ensures))

pub returns : goal.returns
returns c =
    (omega (arith, c.length_of.ensures, c.if-d-length_of.false), omega (arith, day_from_first (24_132 + c.args.month) c.args.d c.requires.day, c.start_of.ensures))
