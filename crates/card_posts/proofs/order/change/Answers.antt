use Rattle.std.proofs.lemmas.Grind.{common_steps}
use Rattle.std.proofs.Common.{◌≡◌, ℕ, ◌-◌, ◌<◌, ◌++◌, List, ◌∷◌, take, drop, length, arith, ap, subst, ◌∙◌}
use Rattle.card_events.specs.declared.kept.Slot.{Slot}
use Rattle.card_posts.specs.Order.{IsPlace}
use Rattle.card_posts.proofs.Moved.{changed-back, changed-on, rest}
use Rattle.card_posts.proofs.Ordered.{ascending-in_order}
use Rattle.card_posts.proofs.SlotLists.{taken-out}
use Rattle.card_posts.proofs.order.change.Goals as goal

pub place_of-from-requires : goal.place_of-from-requires
place_of-from-requires c = rw (c.deref.ensures.value, c.requires.order) (ascending-in_order _)

pub place_of-to-requires : goal.place_of-to-requires
place_of-to-requires c = rw (c.deref-2.ensures.value, c.requires.order) (ascending-in_order _)

placed-in : (s : Slot) (there order : List Slot) (p : ℕ) → there ≡ order → IsPlace s there p → IsPlace s order p
placed-in s there order p same h = subst (λ u. IsPlace s u p) same h

pub move_back-requires-clause-known : goal.move_back-requires-clause-known
move_back-requires-clause-known c =
    let from = placed-in c.slot-old.result c.deref.result.now c.args.order.now.items c.place_of-from.result c.deref.ensures.value c.place_of-from.ensures in
    let both = taken-out c.args.order.now.items c.args.effects.now c.args.i c.slot-old.result c.index-effects-i.result c.place_of-from.result c.requires.known c.requires.order c.slot-old.ensures.value c.index-effects-i.is from in
    let l : c.place_of-from.result < length c.args.order.now.items = both.0 in
    rw c.deref_mut.ensures.value l

pub returns-then-to-from-clause-order : goal.returns-then-to-from-clause-order
returns-then-to-from-clause-order c =
    let items : take c.args.order.now.len (c.move_back.new.order ++ drop (length c.move_back.new.order) c.args.order.now.items) ≡ c.move_back.new.order = grind (arith, common_steps) in
    items ∙ changed-back c.args.order.now.items c.move_back.new.order c.args.effects.now c.args.i c.index-effects-i.result c.args.now.now c.slot-old.result c.slot-new.result c.place_of-from.result c.place_of-to.result
    c.requires.known c.requires.order c.slot-old.ensures.value c.index-effects-i.is c.slot-new.ensures.value
    (placed-in c.slot-old.result c.deref.result.now c.args.order.now.items c.place_of-from.result c.deref.ensures.value c.place_of-from.ensures)
    (placed-in c.slot-new.result c.deref-2.result.now c.args.order.now.items c.place_of-to.result c.deref-2.ensures.value c.place_of-to.ensures)
    (omega (arith, c.if-to-from.true)) (c.move_back.ensures ∙ ap (λ u. take c.place_of-to.result (rest c.place_of-from.result u) ++ c.slot-new.result ∷ drop c.place_of-to.result (rest c.place_of-from.result u)) c.deref_mut.ensures.value)

pub returns-else-to-from-clause-order : goal.returns-else-to-from-clause-order
returns-else-to-from-clause-order c =
    let items : take c.args.order.now.len (c.move_on.new.order ++ drop (length c.move_on.new.order) c.args.order.now.items) ≡ c.move_on.new.order = grind (arith, common_steps) in
    items ∙ changed-on c.args.order.now.items c.move_on.new.order c.args.effects.now c.args.i c.index-effects-i.result c.args.now.now c.slot-old.result c.slot-new.result c.place_of-from.result c.place_of-to.result
    c.requires.known c.requires.order c.slot-old.ensures.value c.index-effects-i.is c.slot-new.ensures.value
    (placed-in c.slot-old.result c.deref.result.now c.args.order.now.items c.place_of-from.result c.deref.ensures.value c.place_of-from.ensures)
    (placed-in c.slot-new.result c.deref-2.result.now c.args.order.now.items c.place_of-to.result c.deref-2.ensures.value c.place_of-to.ensures)
    (omega (arith, c.if-to-from.false)) (c.move_on.ensures ∙ ap (λ u. take (c.place_of-to.result - 1) (rest c.place_of-from.result u) ++ c.slot-new.result ∷ drop (c.place_of-to.result - 1) (rest c.place_of-from.result u)) c.deref_mut-else-to-from.ensures.value)
