use Rattle.std.proofs.Common.{◌<◌, length}
use Rattle.card_segments.proofs.Sole.{AreFound}
use Rattle.card_segments.proofs.allocation.sole_holder.Given as goal

abbrev pub invariant-loop-id : goal.invariant-loop-id
invariant-loop-id l = record {
  found : AreFound l.s.balances l.found l.id;
  known : l.found < length l.s.balances;
}
