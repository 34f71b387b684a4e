use Rattle.std.proofs.Common.{[], arith}
use Rattle.card_waits.specs.Waits.{AreWaits}
use Rattle.card_posts.proofs.Opening.{waits-for-none}
use Rattle.card_posts.proofs.make.waits_of.Goals as goal

pub enter-requires-clause-few : goal.enter-requires-clause-few
enter-requires-clause-few c =
    let w : AreWaits [] c.make_room.new.self = c.in_ok-make_room.ensures.waits [] c.in_ok-waits.ensures in
    omega (arith, w.long)

pub enter-requires-clause-earlier : goal.enter-requires-clause-earlier
enter-requires-clause-earlier c =
    let w : AreWaits [] c.make_room.new.self = c.in_ok-make_room.ensures.waits [] c.in_ok-waits.ensures in
    omega (arith, w.long, waits-for-none c.args.post.now c.requires)

pub returns : goal.returns
returns c k same = c.enter.ensures [] k same (c.in_ok-make_room.ensures.waits [] c.in_ok-waits.ensures)
