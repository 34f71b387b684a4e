use Rattle.std.proofs.Common.{◌≡◌, ◌+◌, ◌*◌, ◌^◌, take, ◌+ℤ◌}
use Rattle.std.specs.Prelude.{neg_ℤ}
use Rattle.card_model.specs.Entries.{balance}
use Rattle.card_segments.specs.Balances.{IsWithin, largest_balance}
use Rattle.card_segments.proofs.before.one_before.Given as goal

abbrev pub invariant-loop-entry : goal.invariant-loop-entry
invariant-loop-entry l = record {
  sum : l.sum ≡ l.after +ℤ neg_ℤ (balance l.id (take l.entry-index l.entries));
  within : IsWithin (largest_balance + l.entry-index * 2 ^ 63) l.sum;
}
