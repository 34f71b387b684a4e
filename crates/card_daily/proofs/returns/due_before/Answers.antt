use Rattle.std.proofs.Common.{◌≡◌, ◌+◌, ◌-◌, Some, None, drop, sym, ap, ◌∙◌, arith, subst}
use Rattle.std.specs.Prelude.{nat_lt}
use Rattle.card_model.specs.Cycles.{Cycle}
use Rattle.card_model.specs.Segments.{last_that}
use Rattle.card_daily.proofs.LastThat.{passes}
use Rattle.card_daily.proofs.returns.due_before.Goals as goal

pub returns-then-is_due : goal.returns-then-is_due
returns-then-is_due c =
    let p = λ (x : Cycle). nat_lt x.due c.args.day in
    let r = c.index-cycles-place.result in
    let test = ap p (sym c.index-cycles-place.is) ∙ (sym c.is_due.ensures ∙ c.if-is_due.true) in
    let i = c.loop-place.place - 1 in
    let next : i + 1 ≡ c.loop-place.place = omega (arith, c.loop-place-test.true) in
    let none = subst (λ k. last_that p (drop k c.args.cycles.now) ≡ None) (sym next) c.loop-place.invariant in
    ap Some c.index-cycles-place.is ∙ sym (passes p i c.args.cycles.now r (omega (arith, c.loop-place-test.true)) none test)
