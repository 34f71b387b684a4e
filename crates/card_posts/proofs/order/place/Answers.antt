use Rattle.std.proofs.lemmas.Grind.{common_steps}
use Rattle.std.proofs.Common.{arith}
use Rattle.card_posts.specs.Order.{IsPlace}
use Rattle.card_posts.proofs.Ordered.{insert-placed}
use Rattle.card_posts.proofs.order.place.Goals as goal

pub returns-clause-order : goal.returns-clause-order
returns-clause-order c =
    let at : IsPlace c.args.slot c.args.order.now.items c.place_of-at.result = rw c.deref.ensures.value at c.place_of-at.ensures in
    let there = insert-placed c.args.slot c.args.order.now.items c.place_of-at.result at in
    grind (arith, common_steps, there)
