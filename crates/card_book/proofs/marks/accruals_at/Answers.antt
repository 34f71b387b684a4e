use Rattle.std.proofs.Common.{arith}
use Rattle.card_book.proofs.Marking.{accrued-all, accrued-next}
use Rattle.card_book.proofs.marks.accruals_at.Goals as goal

pub loop-id-preserved : goal.loop-id-preserved
loop-id-preserved c =
    accrued-next c.args.cycle c.args.list.now c.loop-id.id c.accrued_at.result c.loop-id.accruals.items c.push.new.self.items c.loop-id.invariant c.accrued_at.ensures c.in_ok-push.ensures.items

pub returns : goal.returns
returns c ts long numbered =
    let end = c.loop-id-test.false in
    let within = c.loop-id.auto.id-end in
    accrued-all c.args.cycle c.args.list.now ts c.loop-id.id c.loop-id.accruals.items c.loop-id.invariant (omega (arith, long, end, within)) numbered
