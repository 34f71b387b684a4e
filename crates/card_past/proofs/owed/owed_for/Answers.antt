use Rattle.std.proofs.Common.{arith}
use Rattle.card_events.specs.History.{anchor_of}
use Rattle.card_reasons.proofs.ClosingLemmas.{grown}
use Rattle.card_past.proofs.owed.owed_for.Goals as goal

pub overflow_cast-get : goal.overflow_cast-get
overflow_cast-get c =
    let is = c.get.ensures in
    let closed = c.requires.closed c.in-Bill.cycle c.in-Bill.is in
    let low = grown (anchor_of c.args.posts.now.history) c.in-Bill.cycle in
    let shut = closed.1 in
    omega (arith, is, low, shut)

pub closing_date-closing-requires-clause-cycle : goal.closing_date-closing-requires-clause-cycle
closing_date-closing-requires-clause-cycle c =
    let is = c.get.ensures in
    let some = (c.requires.closed c.in-Bill.cycle c.in-Bill.is).0 in
    omega (arith, is, some)
