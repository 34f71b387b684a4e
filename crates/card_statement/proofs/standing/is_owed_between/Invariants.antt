use Rattle.std.proofs.Common.{◌≡◌, ◌+◌, ◌-◌, ◌*◌, ◌^◌, drop, false, length, ◌-ℤ◌}
use Rattle.card_model.specs.Entries.{balance}
use Rattle.card_segments.specs.Balances.{IsWithin}
use Rattle.card_statement.specs.Standing.{day_behind, is_owed_between}
use Rattle.card_statement.proofs.standing.is_owed_between.Given as goal

abbrev pub invariant-loop-place : goal.invariant-loop-place
invariant-loop-place l = record {
  value : l.sum ≡ l.left -ℤ balance l.segment (drop l.place l.entries);
  bound : IsWithin (2 ^ 63 + (length l.entries - l.place) * 2 ^ 63) l.sum;
  none : is_owed_between l.left l.segment l.first (day_behind 0 l.entries l.place) (drop l.place l.entries) ≡ false;
}
