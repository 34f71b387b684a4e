use Rattle.std.proofs.Common.{◌≡◌, ◌*◌, ◌^◌}
use Rattle.card_demo.specs.Summary.{all_entries}
use Rattle.card_demo.specs.Sums.{AreWithin, totals}
use Rattle.card_demo.proofs.ledger.MemoryLedger.totals.Given as goal

abbrev pub invariant-loop-i : goal.invariant-loop-i
invariant-loop-i l = record {
  same : l.self ≡ l.fn.self;
  sums : l.sums ≡ totals (all_entries l.self l.i);
  within : AreWithin (l.i * 2 ^ 95) l.sums;
}
