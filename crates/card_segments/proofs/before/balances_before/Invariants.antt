use Rattle.std.proofs.Common.{◌≡◌, ◌<◌, ℕ, length, pos}
use Rattle.std.specs.Prelude.{slice_index_or}
use Rattle.card_segments.specs.Unposted.{balance_before}
use Rattle.card_segments.proofs.before.balances_before.Given as goal

abbrev pub invariant-loop-i : goal.invariant-loop-i
invariant-loop-i l = record {
  count : length l.list.items ≡ length l.balances;
  done : (s : ℕ) → s < l.i → slice_index_or l.list.items s (pos 0) ≡ balance_before s l.entries l.balances;
}
