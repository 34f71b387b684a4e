use Rattle.std.proofs.Common.{◌≡◌, ◌+◌, ◌-◌, ◌≤◌, sym, ap, subst, arith}
use Rattle.std.proofs.lemmas.Bool.Decides.{nat_tests}
use Rattle.card_model.specs.Cycles.{IssuedRow}
use Rattle.card_daily.proofs.Since.{NoneFrom, none-before, none-found}
use Rattle.card_daily.proofs.inputs.row_after.Goals as goal

pub returns-then-le : goal.returns-then-le
returns-then-le c =
    let rows = c.args.issued.now in
    let r = c.index-issued-place.result in
    let i = c.loop-place.place - 1 in
    let next : i + 1 ≡ c.loop-place.place = omega (arith, c.loop-place-test.true) in
    let same = ap (λ (x : IssuedRow). x.day) c.row.view_is in
    let is = c.if-le.true in
    let means = c.le.ensures in
    let early : r.day ≤ c.args.day = grind (arith, nat_tests, is, means, same) in
    sym (none-found c.args.cycle rows (none-before c.args.cycle c.args.day rows i r (omega (arith, c.loop-place-test.true)) c.index-issued-place.is early c.requires.order c.requires.later
    (subst (λ k. NoneFrom c.args.cycle k rows) (sym next) c.loop-place.invariant)))

pub returns : goal.returns
returns c =
    let zero : c.loop-place.place ≡ 0 = omega (arith, c.loop-place-test.false) in
    sym (none-found c.args.cycle c.args.issued.now (subst (λ k. NoneFrom c.args.cycle k c.args.issued.now) zero c.loop-place.invariant))
