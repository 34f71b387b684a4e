use Rattle.std.proofs.lemmas.Grind.{common_steps}
use Rattle.std.proofs.Common.{◌≡◌, sym, subst, arith}
use Rattle.std.specs.List.{insert}
use Rattle.card_posts.specs.Later.{IsPlaceOf, IsPut}
use Rattle.card_posts.proofs.Sparse.{blank, make, not-there-at, put-insert, put-set, there-at}
use Rattle.card_posts.proofs.correction_table.put.Goals as goal

pub index_mut-requires : goal.index_mut-requires
index_mut-requires c =
    let here = there-at c.args.number c.place_of-at.result c.args.said.now.items c.deref-2.result.now c.is_there.result c.deref-2.ensures.value (c.is_there.ensures blank) c.if-is_there.true in
    omega (arith, here.0, c.args.said.now.ok.0)

pub returns-then-is_there : goal.returns-then-is_there
returns-then-is_there c =
    let place : IsPlaceOf c.args.number c.args.said.now.items c.place_of-at.result = rw c.deref.ensures.value at c.place_of-at.ensures in
    let here = there-at c.args.number c.place_of-at.result c.args.said.now.items c.deref-2.result.now c.is_there.result c.deref-2.ensures.value (c.is_there.ensures blank) c.if-is_there.true in
    put-set c.args.number c.args.correction c.args.said.now.items c.place_of-at.result blank c.requires.ascending place here.0 here.1

pub returns-else-is_there : goal.returns-else-is_there
returns-else-is_there c =
    let place : IsPlaceOf c.args.number c.args.said.now.items c.place_of-at.result = rw c.deref.ensures.value at c.place_of-at.ensures in
    let apart = not-there-at c.args.number c.place_of-at.result c.args.said.now.items c.deref-2.result.now c.is_there.result c.deref-2.ensures.value c.is_there.ensures c.if-is_there.false in
    let made : c.insert.new.self.items ≡ insert c.args.said.now.items c.place_of-at.result (make c.args.number c.args.correction) = grind (arith, common_steps) in
    subst (IsPut c.args.number c.args.correction c.args.said.now.items) (sym made)
    (put-insert c.args.number c.args.correction c.args.said.now.items c.place_of-at.result c.requires.ascending place apart c.requires.some)
