use Rattle.std.proofs.Common.{arith, sym, ◌∙◌}
use Rattle.card_daily.proofs.Near.{at-late, past-early}
use Rattle.card_daily.proofs.place.place_from.Goals as goal

pub returns-then-not-is_early : goal.returns-then-not-is_early
returns-then-not-is_early c = λ end cut low. at-late c.args.slots.now c.args.day c.loop-place.place end c.index-slots-place.result cut (c.loop-place.invariant end cut low) c.loop-place-test.true c.index-slots-place.is (sym c.is_early.ensures ∙ c.if-not-is_early.true)

pub loop-place-preserved : goal.loop-place-preserved
loop-place-preserved c = λ end cut low. past-early c.args.slots.now c.args.day c.loop-place.place end c.index-slots-place.result cut (c.loop-place.invariant end cut low) c.loop-place-test.true c.index-slots-place.is (sym c.is_early.ensures ∙ c.if-not-is_early.false)

pub returns : goal.returns
returns c = λ end cut low.
    let upto = c.loop-place.invariant end cut low in
    let within = cut.within in
    let past = c.loop-place-test.false in
    omega (arith, upto, within, past)
