use Rattle.std.proofs.Common.{◌≡◌, ◌-◌, ◌*◌, ◌≤◌, drop, take}
use Rattle.std.specs.List.{sum_by}
use Rattle.card_closing.specs.Interest.{amounts_of}
use Rattle.card_closing.specs.Record.{balance_later}
use Rattle.card_closing.proofs.record.deferred_after.Given as goal
use Rattle.card_model.specs.Limits.{balance_limit}

abbrev pub invariant-loop-id : goal.invariant-loop-id
invariant-loop-id l = record {
  value : l.sum ≡ sum_by (λ n. n) (take (l.id - 2) (amounts_of (balance_later l.day) (drop 2 l.segments.segments) (drop 2 l.segments.balances)));
  bound : l.sum ≤ (l.id - 2) * balance_limit;
}
