use Rattle.std.proofs.Common.{◌-◌, ◌≤◌, length}
use Rattle.card_ports.specs.Visits.{wire}
use Rattle.card_wire.specs.Links.{Read}
use Rattle.card_wire.proofs.body.read_body.Given as goal

abbrev pub invariant-loop-link : goal.invariant-loop-link
invariant-loop-link g l = record {
  read : Read (wire g.C.Source.left g.C.Sink.taken g.C.Source.faults l.initial.link) (wire g.C.Source.left g.C.Sink.taken g.C.Source.faults l.link) l.body.items;
  few : length l.body.items ≤ l.count;
}

abbrev pub decreases-loop-link : goal.decreases-loop-link
decreases-loop-link g l = l.count - length l.body.items
