use Rattle.std.proofs.Common.{◌≤◌, take}
use Rattle.card_closing.proofs.Charged.{AreUpTo}
use Rattle.card_closing.proofs.record.are_by_number.Given as goal

abbrev pub invariant-loop-place : goal.invariant-loop-place
invariant-loop-place l = record {
  upto : AreUpTo l.next (take l.place l.done);
  within : l.next ≤ l.end;
}
