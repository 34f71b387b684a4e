use Rattle.std.proofs.Common.{◌≡◌, ◌+◌, ◌≤◌, ◌++◌, drop, length, vec_len, vec_capacity}
use Rattle.card_model.specs.Effects.{parts_entries}
use Rattle.card_segments.specs.Balances.{after_entries}
use Rattle.card_segments.proofs.Payable.{ArePayable}
use Rattle.card_segments.proofs.part_moves.take.Given as goal

abbrev pub invariant-loop-i : goal.invariant-loop-i
invariant-loop-i l = record {
  ok : after_entries (parts_entries l.note (drop l.i l.items)) l.s ≡ after_entries (parts_entries l.note l.parts) l.fn.s;
  entries : l.out.items ++ parts_entries l.note (drop l.i l.items) ≡ l.fn.out.items ++ parts_entries l.note l.parts;
  payable : ArePayable l.s.balances (drop l.i l.items);
  same : length l.s.balances ≡ length l.fn.s.balances;
  room : vec_len l.out + length (drop l.i l.items) ≤ vec_capacity l.out;
  capacity : vec_capacity l.fn.out ≤ vec_capacity l.out;
}
