use Rattle.std.proofs.Common.{◌≡◌}
use Rattle.card_wire.specs.Bodies.{first_other}
use Rattle.serde_json.specs.View.{members_view}
use Rattle.card_wire.proofs.json_body.first_other.Given as goal

abbrev pub invariant-loop-name : goal.invariant-loop-name
invariant-loop-name l =
    (goal.iterator-loop-name).can_next l.name-iterator
    × (goal.iterator-loop-name).is_finite l.name-iterator
    × (first_other l.fields (members_view l.name-iterator) ≡ first_other l.fields (members_view l.members.entries))
