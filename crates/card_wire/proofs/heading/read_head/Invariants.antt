use Rattle.std.proofs.Common.{◌-◌, ◌≤◌, length}
use Rattle.card_ports.specs.Visits.{wire}
use Rattle.card_wire.specs.Heads.{IsPendingBefore, head_limit}
use Rattle.card_wire.specs.Links.{Read}
use Rattle.card_wire.specs.Places.{IsAt}
use Rattle.card_wire.proofs.heading.read_head.Given as goal

abbrev pub invariant-loop-end : goal.invariant-loop-end
invariant-loop-end g l = record {
  read : Read (wire g.C.Source.left g.C.Sink.taken g.C.Source.faults l.initial.link) (wire g.C.Source.left g.C.Sink.taken g.C.Source.faults l.link) l.got.items;
  few : length l.got.items ≤ head_limit;
  before : IsPendingBefore l.got.items;
  at : IsAt l.place l.got.items;
}

abbrev pub decreases-loop-end : goal.decreases-loop-end
decreases-loop-end g l = head_limit - length l.got.items
