use Rattle.std.proofs.Common.{◌≤◌, length, arith}
use Rattle.card_effects.specs.Places.{numbers_of}
use Rattle.card_effects.proofs.Named.{numbers-all, numbers-step}
use Rattle.card_effects.proofs.place.numbers_of.Goals as goal

pub loop-id-preserved : goal.loop-id-preserved
loop-id-preserved c gs numbers kept =
    let s = c.get.result.now in
    numbers-step c.args.place.now c.args.segments.now.segments gs s c.loop-id.list.items c.add_number.new.list.items _ c.loop-id.id numbers kept (omega arith) (omega (arith, c.len-id-end.ensures.segments)) (c.get.ensures s)
    c.in_ok-add_number.ensures (c.loop-id.invariant gs numbers kept)

pub returns : goal.returns
returns c gs numbers kept =
    let over : length c.args.segments.now.segments ≤ c.loop-id.id = omega (arith, c.loop-id-test.false, c.len-id-end.ensures.segments) in
    numbers-all c.args.place.now c.args.segments.now.segments gs c.loop-id.list.items (numbers_of c.args.place.now gs) c.loop-id.id kept over (c.loop-id.invariant gs numbers kept)
