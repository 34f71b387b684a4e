use Rattle.std.proofs.Common.{◌≡◌, ◌++◌, drop}
use Rattle.std.specs.List.{filter}
use Rattle.card_model.specs.Effects.{is_part_of}
use Rattle.card_segments.specs.Parts.{parts_in}
use Rattle.card_segments.proofs.parts.parts_of_payment.Given as goal

abbrev pub invariant-loop-entry : goal.invariant-loop-entry
invariant-loop-entry l =
    l.list.items ++ parts_in (filter (is_part_of l.payment) (drop l.entry-index l.entries)) ≡ parts_in (filter (is_part_of l.payment) l.entries)
