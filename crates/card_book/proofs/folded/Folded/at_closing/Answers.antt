use Rattle.std.proofs.Common.{◌≡◌, ℕ, List, nat_le, length, take, sym, ap, subst, ◌∙◌, arith}
use Rattle.std.proofs.lemmas.List.{length-take-le}
use Rattle.std.specs.List.{filter}
use Rattle.card_model.specs.Cycles.{Cycle}
use Rattle.card_model.specs.Entries.{AreBalances}
use Rattle.card_model.specs.declared.entry.Entry.{Entry}
use Rattle.card_model.specs.declared.fee.Fee.{Fee}
use Rattle.card_book.proofs.Fronts.{entries-fit, fewer, front-cycle, front-sums, front-told}
use Rattle.card_book.specs.Stands.{FoldedBook, IsFoldedTo}
use Rattle.card_book.proofs.folded.Folded.at_closing.Goals as goal

front-of : {X : Type 0} (xs ys : List X) (m n : ℕ) → xs ≡ ys → m ≡ n → take m xs ≡ take n ys
front-of xs ys m n e f = ap (λ l. take m l) e ∙ ap (λ k. take k ys) f

-- the entries up to the closing, and the fees up to the cycle, lie in their lists
pub slice_bounds-new-end : goal.slice_bounds-new-end
slice_bounds-new-end c =
    let t = c.args.track.now in
    let h = c.requires.back in
    let cycle = c.cycle_in.result.now in
    let same = ap (λ (x : Cycle). x.entries) (c.behind-track.view_is ∙ front-cycle c.args.number c.args.book.now t cycle h c.cycle_in.ensures c.requires.first c.requires.closed) in
    let fit = entries-fit c.args.number c.args.book.now t h in
    let long = ap (λ (l : List Entry). length l) c.deref-2.ensures.value in
    sym (length-take-le c.behind-track.inside.entries c.deref-2.result.now (omega (arith, same, fit, long)))

pub slice_bounds-new-end-3 : goal.slice_bounds-new-end-3
slice_bounds-new-end-3 c =
    let t = c.args.track.now in
    let few = fewer (λ (f : Fee). nat_le f.cycle c.args.number) t.fees.items in
    let count = c.fees_up_to-fees.ensures ∙ ap (λ (l : List Fee). length (filter (λ (f : Fee). nat_le f.cycle c.args.number) l)) c.deref.ensures.value in
    let long = ap (λ (l : List Fee). length l) c.deref-4.ensures.value in
    sym (length-take-le c.fees_up_to-fees.result c.deref-4.result.now (omega (arith, few, count, long)))

pub new-requires-clause-sums : goal.new-requires-clause-sums
new-requires-clause-sums c =
    let t = c.args.track.now in
    let b = c.args.book.now in
    let h = c.requires.back in
    let cycle = c.cycle_in.result.now in
    let same = ap (λ (x : Cycle). x.entries) (c.behind-track.view_is ∙ front-cycle c.args.number b t cycle h c.cycle_in.ensures c.requires.first c.requires.closed) in
    subst (λ (es : List Entry). AreBalances es b.state.segments.balances) (sym (front-of c.deref-2.result.now t.entries.items c.behind-track.inside.entries h.cycle.entries c.deref-2.ensures.value same))
    (front-sums c.args.number b t h).0

pub new-requires-clause-small : goal.new-requires-clause-small
new-requires-clause-small c = (front-sums c.args.number c.args.book.now c.args.track.now c.requires.back).1

pub returns : goal.returns
returns c g d h =
    let t = c.args.track.now in
    let cycle = c.cycle_in.result.now in
    let count = c.fees_up_to-fees.ensures ∙ ap (λ (l : List Fee). length (filter (λ (f : Fee). nat_le f.cycle c.args.number) l)) c.deref.ensures.value in
    subst (λ (f : FoldedBook). IsFoldedTo g d.closing f) (sym c.new.ensures)
    (front-told c.args.number c.args.book.now t g d cycle _ _ _ c.requires.back h c.cycle_in.ensures c.requires.first c.requires.closed
    (front-of c.deref-2.result.now t.entries.items c.behind-track.inside.entries cycle.entries c.deref-2.ensures.value (ap (λ (x : Cycle). x.entries) c.behind-track.view_is))
    (ap (λ (l : List Cycle). take c.args.number l) c.deref-3.ensures.value)
    (front-of c.deref-4.result.now t.fees.items c.fees_up_to-fees.result _ c.deref-4.ensures.value count))
