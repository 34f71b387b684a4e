use Rattle.std.proofs.Common.{◌≡◌, ◌≤◌, length, map, take}
use Rattle.httparse.specs.Spans.{header_bytes}
use Rattle.card_wire.specs.Framing.{values_named}
use Rattle.card_wire.proofs.head.Head.count_named.Given as goal

abbrev pub invariant-loop-field : goal.invariant-loop-field
invariant-loop-field l = record {
  few : l.count ≤ l.field-index;
  counted : l.count ≡ length (values_named l.name (take l.field-index (map (header_bytes l.self-inside.bytes.now) l.field-items)));
}
