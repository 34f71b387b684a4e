use Rattle.std.proofs.Common.{◌≡◌, ◌++◌, drop}
use Rattle.card_wire.specs.Bodies.{fields_told}
use Rattle.card_wire.specs.Joined.{joined}
use Rattle.serde_json.specs.View.{view}
use Rattle.card_wire.proofs.spelling.spell.Given as goal

abbrev pub invariant-loop-field : goal.invariant-loop-field
invariant-loop-field l = l.line.items ++ joined (fields_told (view l.object) (drop l.field-index l.fields)) ≡ l.kind ++ joined (fields_told (view l.object) l.fields)
