use Rattle.std.proofs.Common.{◌≡◌, ◌+◌, ◌*◌, ◌<◌, ◌≤◌, ◌++◌, drop, length, vec_len, vec_capacity}
use Rattle.card_segments.specs.Balances.{after_entries}
use Rattle.card_segments.specs.Parts.{back_entries}
use Rattle.card_segments.proofs.Payable.{HaveRoom}
use Rattle.card_segments.proofs.part_moves.put_back.Given as goal

abbrev pub invariant-loop-i : goal.invariant-loop-i
invariant-loop-i l = record {
  ok : after_entries (back_entries l.note l.newest (drop l.i l.items) l.s.balances) l.s ≡ after_entries (back_entries l.note l.newest l.parts l.fn.s.balances) l.fn.s;
  entries : l.out.items ++ back_entries l.note l.newest (drop l.i l.items) l.s.balances ≡ l.fn.out.items ++ back_entries l.note l.newest l.parts l.fn.s.balances;
  movable : HaveRoom l.s.balances (drop l.i l.items);
  known : l.newest < length l.s.balances;
  same : length l.s.balances ≡ length l.fn.s.balances;
  room : vec_len l.out + 2 * length (drop l.i l.items) ≤ vec_capacity l.out;
  capacity : vec_capacity l.fn.out ≤ vec_capacity l.out;
}
