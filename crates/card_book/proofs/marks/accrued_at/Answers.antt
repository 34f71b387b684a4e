use Rattle.std.proofs.Common.{sym, ap, ◌∙◌, arith}
use Rattle.std.proofs.lemmas.List.{take_all}
use Rattle.std.specs.List.{find}
use Rattle.card_book.proofs.Marking.{accrued-found, accrued-none, found-here, is_kept_of, passed-here}
use Rattle.card_book.proofs.marks.accrued_at.Goals as goal

pub returns-then-is_of : goal.returns-then-is_of
returns-then-is_of c =
    let p = is_kept_of c.args.cycle c.args.segment in
    let x = c.accruing-item.result in
    accrued-found c.args.cycle c.args.segment c.args.list.now x
    (found-here p c.args.list.now c.loop-accruing.accruing-index x c.loop-accruing-test.true c.accruing-item.is c.loop-accruing.invariant (sym c.is_of.ensures ∙ c.if-is_of.true))

pub loop-accruing-preserved : goal.loop-accruing-preserved
loop-accruing-preserved c =
    let p = is_kept_of c.args.cycle c.args.segment in
    let x = c.accruing-item.result in
    passed-here p c.args.list.now c.loop-accruing.accruing-index x c.loop-accruing-test.true c.accruing-item.is c.loop-accruing.invariant (sym c.is_of.ensures ∙ c.if-is_of.false)

pub returns : goal.returns
returns c =
    let end = c.loop-accruing-test.false in
    let all = take_all c.loop-accruing.accruing-index c.args.list.now (omega (arith, end)) in
    c.start.ensures ∙ accrued-none c.args.cycle c.args.segment c.args.list.now (ap (find (is_kept_of c.args.cycle c.args.segment)) (sym all) ∙ c.loop-accruing.invariant)
