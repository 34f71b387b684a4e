use Rattle.std.proofs.Common.{◌≡◌, [], map, take}
use Rattle.httparse.specs.Spans.{header_bytes}
use Rattle.card_wire.specs.Framing.{values_named}
use Rattle.card_wire.proofs.head.Head.first_named.Given as goal

abbrev pub invariant-loop-field : goal.invariant-loop-field
invariant-loop-field l = values_named l.name (take l.field-index (map (header_bytes l.self-inside.bytes.now) l.field-items)) ≡ []
