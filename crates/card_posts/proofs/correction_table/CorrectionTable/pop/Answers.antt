use Rattle.std.proofs.Common.{◌-◌, length, take, sym, ap, ◌∙◌, subst, arith}
use Rattle.card_posts.specs.Later.{AreSaid, IsPlaceOf, Later, each_from}
use Rattle.card_posts.proofs.Sparse.{each-length, each-pop, front-ascending, front-within}
use Rattle.card_posts.proofs.correction_table.CorrectionTable.pop.Goals as goal

pub overflow_sub-self : goal.overflow_sub-self
overflow_sub-self c =
    let long = ap (λ (t : Later). length t.each) c.self.view_is in
    let count = each-length 1 c.self.inside.count c.self.inside.said.items in
    omega (arith, c.requires, long, count)

pub invariant_of-self : goal.invariant_of-self
invariant_of-self c =
    let place : IsPlaceOf c.self.inside.count c.self.inside.said.items c.place_of-at.result = rw c.deref.ensures.value at c.place_of-at.ensures in
    subst (AreSaid (c.self.inside.count - 1)) (sym c.truncate.ensures.items)
    (record {
      few = omega (arith, c.self.invariant.few);
      ascending = front-ascending 1 c.self.inside.said.items c.place_of-at.result c.self.invariant.ascending;
      within = front-within c.self.inside.count c.self.inside.said.items c.place_of-at.result place;
    })

pub returns-clause-each : goal.returns-clause-each
returns-clause-each c =
    let place : IsPlaceOf c.self.inside.count c.self.inside.said.items c.place_of-at.result = rw c.deref.ensures.value at c.place_of-at.ensures in
    let long = ap (λ (t : Later). length t.each) c.self.view_is in
    let count = each-length 1 c.self.inside.count c.self.inside.said.items in
    ap (each_from 1 (c.self.inside.count - 1)) c.truncate.ensures.items
    ∙ (each-pop c.self.inside.count c.self.inside.said.items c.place_of-at.result (omega (arith, c.requires, long, count)) c.self.invariant.ascending place
    ∙ ap (λ (t : Later). take (length t.each - 1) t.each) c.self.view_is)
