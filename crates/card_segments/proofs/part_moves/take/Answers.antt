use Rattle.std.proofs.Common.{◌≡◌, ◌+◌, ◌<◌, ◌∷◌, [], ◌++◌, ◌∙◌, append-nil, drop, length, ap, sym, subst, arith, slice_index_or}
use Rattle.std.proofs.lemmas.List.{drop_all, drop_more}
use Rattle.card_model.specs.Effects.{parts_entries}
use Rattle.card_model.specs.Entries.{lowers}
use Rattle.card_model.proofs.Posted.{length-posted}
use Rattle.card_segments.specs.Balances.{after_entries}
use Rattle.card_segments.proofs.Payable.{ArePayable, can-move, head-covered, join-entries, join-ok, payable-step}
use Rattle.card_segments.proofs.part_moves.take.Goals as goal

pub take_part-requires-clause-known : goal.take_part-requires-clause-known
take_part-requires-clause-known c =
    let items = c.items-items.result.now in
    let i = c.loop-i.i in
    let p = slice_index_or items i (0, 0) in
    let rest = drop (i + 1) items in
    let here : i < length items = omega arith in
    let more : drop i items ≡ p ∷ rest = drop_more items i (0, 0) here in
    let payable : ArePayable c.loop-i.s.balances (p ∷ rest) = subst (ArePayable c.loop-i.s.balances) more c.loop-i.invariant.payable in
    (can-move c.loop-i.s.balances p rest payable.room).known

pub take_part-requires-clause-covered : goal.take_part-requires-clause-covered
take_part-requires-clause-covered c =
    let items = c.items-items.result.now in
    let i = c.loop-i.i in
    let p = slice_index_or items i (0, 0) in
    let rest = drop (i + 1) items in
    let here : i < length items = omega arith in
    let more : drop i items ≡ p ∷ rest = drop_more items i (0, 0) here in
    let payable : ArePayable c.loop-i.s.balances (p ∷ rest) = subst (ArePayable c.loop-i.s.balances) more c.loop-i.invariant.payable in
    head-covered c.loop-i.s.balances p rest payable

pub take_part-requires-clause-limit : goal.take_part-requires-clause-limit
take_part-requires-clause-limit c =
    let items = c.items-items.result.now in
    let i = c.loop-i.i in
    let p = slice_index_or items i (0, 0) in
    let rest = drop (i + 1) items in
    let here : i < length items = omega arith in
    let more : drop i items ≡ p ∷ rest = drop_more items i (0, 0) here in
    let payable : ArePayable c.loop-i.s.balances (p ∷ rest) = subst (ArePayable c.loop-i.s.balances) more c.loop-i.invariant.payable in
    (can-move c.loop-i.s.balances p rest payable.room).few

pub take_part-requires-clause-small : goal.take_part-requires-clause-small
take_part-requires-clause-small c =
    let items = c.items-items.result.now in
    let i = c.loop-i.i in
    let p = slice_index_or items i (0, 0) in
    let rest = drop (i + 1) items in
    let here : i < length items = omega arith in
    let more : drop i items ≡ p ∷ rest = drop_more items i (0, 0) here in
    let payable : ArePayable c.loop-i.s.balances (p ∷ rest) = subst (ArePayable c.loop-i.s.balances) more c.loop-i.invariant.payable in
    (can-move c.loop-i.s.balances p rest payable.room).small

pub loop-i-preserved : goal.loop-i-preserved
loop-i-preserved c =
    let items = c.items-items.result.now in
    let i = c.loop-i.i in
    let p = slice_index_or items i (0, 0) in
    let rest = drop (i + 1) items in
    let here : i < length items = omega arith in
    let more : drop i items ≡ p ∷ rest = drop_more items i (0, 0) here in
    let payable : ArePayable c.loop-i.s.balances (p ∷ rest) = subst (ArePayable c.loop-i.s.balances) more c.loop-i.invariant.payable in
    let note = c.args.note.now in
    let longer = ap length more in
    let moved = ap (parts_entries note) more in
    record {
      ok = join-ok (lowers note p.0 p.1) (parts_entries note rest) c.loop-i.s c.take_part.new.s _ c.take_part.ensures.ok (subst (λ es. after_entries es c.loop-i.s ≡ after_entries (parts_entries note c.args.parts.now) c.args.s.now) moved c.loop-i.invariant.ok);
      entries = join-entries c.loop-i.out.items (lowers note p.0 p.1) (parts_entries note rest) c.take_part.new.out.items _ c.take_part.ensures.entries
          (subst (λ es. c.loop-i.out.items ++ es ≡ c.args.out.now.items ++ parts_entries note c.args.parts.now) moved c.loop-i.invariant.entries);
      payable = rw c.take_part.ensures.ok (payable-step note c.loop-i.s.balances p rest payable);
      same = rw (c.take_part.ensures.ok, length-posted (lowers note p.0 p.1) c.loop-i.s.balances) c.loop-i.invariant.same;
      room = omega (arith, longer, c.loop-i.invariant.room, c.take_part.ensures.len, c.take_part.ensures.capacity);
      capacity = omega (arith, c.loop-i.invariant.capacity, c.take_part.ensures.capacity);
    }

pub returns-clause-ok : goal.returns-clause-ok
returns-clause-ok c =
    let none : drop c.loop-i.i c.items-items.result.now ≡ [] = drop_all c.loop-i.i c.items-items.result.now (omega arith) in
    let note = c.args.note.now in
    let s = c.loop-i.s in
    subst (λ ps. after_entries (parts_entries note ps) s ≡ after_entries (parts_entries note c.args.parts.now) c.args.s.now) none c.loop-i.invariant.ok

pub returns-clause-entries : goal.returns-clause-entries
returns-clause-entries c =
    let none : drop c.loop-i.i c.items-items.result.now ≡ [] = drop_all c.loop-i.i c.items-items.result.now (omega arith) in
    let note = c.args.note.now in
    sym (append-nil c.loop-i.out.items)
    ∙ subst (λ ps. c.loop-i.out.items ++ parts_entries note ps ≡ c.args.out.now.items ++ parts_entries note c.args.parts.now) none c.loop-i.invariant.entries
