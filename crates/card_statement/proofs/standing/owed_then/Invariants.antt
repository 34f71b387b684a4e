use Rattle.std.proofs.Common.{◌≡◌, ◌+◌, ◌*◌, ◌^◌, take, ◌-ℤ◌}
use Rattle.card_segments.specs.Balances.{IsWithin}
use Rattle.card_statement.specs.Standing.{moved_after}
use Rattle.card_statement.proofs.standing.owed_then.Given as goal

abbrev pub invariant-loop-entry : goal.invariant-loop-entry
invariant-loop-entry l = record {
  value : l.sum ≡ l.left -ℤ moved_after l.segment l.day (take l.entry-index l.entries);
  bound : IsWithin (2 ^ 63 + l.entry-index * 2 ^ 63) l.sum;
}
