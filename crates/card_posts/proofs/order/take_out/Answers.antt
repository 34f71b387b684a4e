use Rattle.std.proofs.Common.{◌<◌, length, arith, ◌∙◌}
use Rattle.card_posts.proofs.Ordered.{ascending-in_order}
use Rattle.card_posts.proofs.SlotLists.{taken-out}
use Rattle.card_posts.proofs.order.take_out.Goals as goal

pub place_of-from-requires : goal.place_of-from-requires
place_of-from-requires c = rw (c.deref.ensures.value, c.requires.order) (ascending-in_order _)

pub remove-requires : goal.remove-requires
remove-requires c =
    let both = taken-out c.deref.result.now c.args.effects.now c.args.i c.slot-old.result c.index-effects-i.result c.place_of-from.result c.requires.known (c.deref.ensures.value ∙ c.requires.order) c.slot-old.ensures.value c.index-effects-i.is c.place_of-from.ensures in
    let l : c.place_of-from.result < length c.deref.result.now = both.0 in
    omega (arith, l, c.deref.ensures.len)

pub returns-clause-order : goal.returns-clause-order
returns-clause-order c =
    let both = taken-out c.deref.result.now c.args.effects.now c.args.i c.slot-old.result c.index-effects-i.result c.place_of-from.result c.requires.known (c.deref.ensures.value ∙ c.requires.order) c.slot-old.ensures.value c.index-effects-i.is c.place_of-from.ensures in
    let e = both.1 in
    c.remove.ensures.by_index.2 ∙ (rw (← c.deref.ensures.value) e)
