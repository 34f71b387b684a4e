use Rattle.std.proofs.Common.{◌≡◌, ◌*◌, take}
use Rattle.card_segments.specs.Balances.{IsWithin, total}
use Rattle.card_segments.proofs.moves.sum.Given as goal

abbrev pub invariant-loop-balance : goal.invariant-loop-balance
invariant-loop-balance l = record {
  sum : l.sum ≡ total (take l.balance-index l.balances);
  within : IsWithin (l.balance-index * 11_000_000_000_000_000) l.sum;
}
