use Rattle.std.proofs.Common.{◌≡◌, ℕ, ◌+◌, ◌*◌, ◌^◌, take}
use Rattle.card_demo.specs.Sums.{AreWithin, with_entries}
use Rattle.card_demo.proofs.totals.with_entries.Given as goal

abbrev pub invariant-loop-i : goal.invariant-loop-i
invariant-loop-i l = record {
  sums : l.all ≡ with_entries (take l.i l.entries) l.sums;
  within : (n : ℕ) → AreWithin n l.sums → AreWithin (n + l.i * 2 ^ 63) l.all;
}
