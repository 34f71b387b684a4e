use Rattle.std.proofs.Common.{◌≡◌, true, take}
use Rattle.std.specs.List.{list_all}
use Rattle.card_events.specs.Names.{is_name_byte}
use Rattle.card_events.proofs.name.are_name_bytes.Given as goal

abbrev pub invariant-loop-b : goal.invariant-loop-b
invariant-loop-b l = list_all is_name_byte (take l.b-index l.bytes) ≡ true
