use Rattle.std.proofs.Common.{◌≡◌, ◌+◌, ◌<◌, ◌∷◌, [], ◌++◌, ◌∙◌, append-nil, drop, length, ap, sym, subst, arith, slice_index_or}
use Rattle.std.proofs.lemmas.List.{drop_all, drop_more}
use Rattle.card_model.specs.Entries.{credit_in, debit}
use Rattle.card_model.proofs.Posted.{length-posted}
use Rattle.card_segments.specs.Balances.{after_entries}
use Rattle.card_segments.specs.Parts.{back_entries, segment_back}
use Rattle.card_segments.proofs.Payable.{HaveRoom, back-entries, back-high, back-known, back-ok, can-move, room-raise}
use Rattle.card_segments.proofs.part_moves.put_back.Goals as goal

pub return_part-requires-clause-segment : goal.return_part-requires-clause-segment
return_part-requires-clause-segment c =
    let items = c.items-items.result.now in
    let i = c.loop-i.i in
    let p = slice_index_or items i (0, 0) in
    let rest = drop (i + 1) items in
    let here : i < length items = omega arith in
    let more : drop i items ≡ p ∷ rest = drop_more items i (0, 0) here in
    let movable : HaveRoom c.loop-i.s.balances (p ∷ rest) = subst (HaveRoom c.loop-i.s.balances) more c.loop-i.invariant.movable in
    let can = can-move c.loop-i.s.balances p rest movable in
    rw c.segment_back.ensures (back-high c.args.newest p c.requires.newest can.not_held)

pub return_part-requires-clause-known : goal.return_part-requires-clause-known
return_part-requires-clause-known c =
    let items = c.items-items.result.now in
    let i = c.loop-i.i in
    let p = slice_index_or items i (0, 0) in
    let rest = drop (i + 1) items in
    let here : i < length items = omega arith in
    let more : drop i items ≡ p ∷ rest = drop_more items i (0, 0) here in
    let movable : HaveRoom c.loop-i.s.balances (p ∷ rest) = subst (HaveRoom c.loop-i.s.balances) more c.loop-i.invariant.movable in
    let can = can-move c.loop-i.s.balances p rest movable in
    rw c.segment_back.ensures (back-known c.args.newest (length c.loop-i.s.balances) p c.loop-i.invariant.known can.known)

pub return_part-requires-clause-limit : goal.return_part-requires-clause-limit
return_part-requires-clause-limit c =
    let items = c.items-items.result.now in
    let i = c.loop-i.i in
    let p = slice_index_or items i (0, 0) in
    let rest = drop (i + 1) items in
    let here : i < length items = omega arith in
    let more : drop i items ≡ p ∷ rest = drop_more items i (0, 0) here in
    let movable : HaveRoom c.loop-i.s.balances (p ∷ rest) = subst (HaveRoom c.loop-i.s.balances) more c.loop-i.invariant.movable in
    let can = can-move c.loop-i.s.balances p rest movable in
    can.few

pub return_part-requires-clause-small : goal.return_part-requires-clause-small
return_part-requires-clause-small c =
    let items = c.items-items.result.now in
    let i = c.loop-i.i in
    let p = slice_index_or items i (0, 0) in
    let rest = drop (i + 1) items in
    let here : i < length items = omega arith in
    let more : drop i items ≡ p ∷ rest = drop_more items i (0, 0) here in
    let movable : HaveRoom c.loop-i.s.balances (p ∷ rest) = subst (HaveRoom c.loop-i.s.balances) more c.loop-i.invariant.movable in
    let can = can-move c.loop-i.s.balances p rest movable in
    can.small

pub loop-i-preserved : goal.loop-i-preserved
loop-i-preserved c =
    let items = c.items-items.result.now in
    let i = c.loop-i.i in
    let p = slice_index_or items i (0, 0) in
    let rest = drop (i + 1) items in
    let here : i < length items = omega arith in
    let more : drop i items ≡ p ∷ rest = drop_more items i (0, 0) here in
    let movable : HaveRoom c.loop-i.s.balances (p ∷ rest) = subst (HaveRoom c.loop-i.s.balances) more c.loop-i.invariant.movable in
    let can = can-move c.loop-i.s.balances p rest movable in
    let note = c.args.note.now in
    let newest = c.args.newest in
    let longer = ap length more in
    let s = c.loop-i.s in
    let ds = debit note (segment_back newest p.0) p.1 (credit_in s.balances) in
    let ok : c.return_part.new.s ≡ after_entries ds s = subst (λ g. c.return_part.new.s ≡ after_entries (debit note g p.1 (credit_in s.balances)) s) c.segment_back.ensures c.return_part.ensures.ok in
    let entries : c.return_part.new.out.items ≡ c.loop-i.out.items ++ ds = subst (λ g. c.return_part.new.out.items ≡ c.loop-i.out.items ++ debit note g p.1 (credit_in s.balances)) c.segment_back.ensures c.return_part.ensures.entries in
    let known = back-known newest (length s.balances) p c.loop-i.invariant.known can.known in
    record {
      ok = back-ok note newest p rest s c.return_part.new.s _ ok
          (subst (λ ps. after_entries (back_entries note newest ps s.balances) s ≡ after_entries (back_entries note newest c.args.parts.now c.args.s.now.balances) c.args.s.now) more c.loop-i.invariant.ok);
      entries = back-entries note newest p rest s c.return_part.new.s c.loop-i.out.items c.return_part.new.out.items _ ok entries
          (subst (λ ps. c.loop-i.out.items ++ back_entries note newest ps s.balances ≡ c.args.out.now.items ++ back_entries note newest c.args.parts.now c.args.s.now.balances) more c.loop-i.invariant.entries);
      movable = rw ok (room-raise note newest s.balances p rest known movable);
      known = rw (ok, length-posted ds s.balances) c.loop-i.invariant.known;
      same = rw (ok, length-posted ds s.balances) c.loop-i.invariant.same;
      room = omega (arith, longer, c.loop-i.invariant.room, c.return_part.ensures.len, c.return_part.ensures.capacity);
      capacity = omega (arith, c.loop-i.invariant.capacity, c.return_part.ensures.capacity);
    }

pub returns-clause-ok : goal.returns-clause-ok
unfolding back_entries
returns-clause-ok c =
    let items = c.items-items.result.now in
    let none : drop c.loop-i.i items ≡ [] = drop_all c.loop-i.i items (omega arith) in
    let s = c.loop-i.s in
    subst (λ ps. after_entries (back_entries c.args.note.now c.args.newest ps s.balances) s ≡ after_entries (back_entries c.args.note.now c.args.newest c.args.parts.now c.args.s.now.balances) c.args.s.now) none c.loop-i.invariant.ok

pub returns-clause-entries : goal.returns-clause-entries
unfolding back_entries
returns-clause-entries c =
    let items = c.items-items.result.now in
    let none : drop c.loop-i.i items ≡ [] = drop_all c.loop-i.i items (omega arith) in
    let s = c.loop-i.s in
    sym (append-nil c.loop-i.out.items)
    ∙ subst (λ ps. c.loop-i.out.items ++ back_entries c.args.note.now c.args.newest ps s.balances ≡ c.args.out.now.items ++ back_entries c.args.note.now c.args.newest c.args.parts.now c.args.s.now.balances) none c.loop-i.invariant.entries
