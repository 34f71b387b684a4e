use Rattle.std.proofs.Common.{◌<◌, arith}
use Rattle.std.proofs.lemmas.Bool.Decides.{nat_tests}
use Rattle.card_daily.proofs.PostDay.{end-later}
use Rattle.card_daily.proofs.posts.end_of.Goals as goal

pub returns-then-is_after : goal.returns-then-is_after
returns-then-is_after c = λ end cut low.
    let is = c.if-is_after.true in
    let means = c.is_after.ensures in
    let later : c.args.day < c.index-slots-place.result.day = grind (arith, nat_tests, is, means) in
    end-later c.args.slots.now c.args.day c.loop-place.place end c.index-slots-place.result cut (c.loop-place.invariant end cut low) c.loop-place-test.true c.index-slots-place.is later

pub returns : goal.returns
returns c = λ end cut low.
    let upto = c.loop-place.invariant end cut low in
    let within = cut.within in
    let past = c.loop-place-test.false in
    omega (arith, upto, within, past)
