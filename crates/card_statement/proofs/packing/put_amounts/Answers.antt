use Rattle.std.proofs.Common.{◌<◌, ap, get_or, length, refl, arith}
use Rattle.card_statement.specs.Packing.{IsAmount, amount_words}
use Rattle.card_statement.proofs.PackingSteps.{line-written}
use Rattle.card_statement.proofs.packing.put_amounts.Goals as goal

pub loop-place-preserved : goal.loop-place-preserved
loop-place-preserved c =
    let count = c.len-place-end.ensures in
    let there : c.loop-place.place < length c.args.amounts.now = omega (arith, count) in
    line-written IsAmount amount_words c.args.amounts.now c.loop-place.place (get_or c.args.amounts.now c.loop-place.place (0, 0)) (0, 0) c.args.words.now.items c.loop-place.words.items c.put_amount.new.words.items there refl
    c.loop-place.invariant c.in_ok-put_amount.ensures.written c.in_ok-put_amount.ensures.held
