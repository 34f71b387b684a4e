use Rattle.std.proofs.Common.{◌≡◌, ◌++◌, drop}
use Rattle.std.specs.List.{filter_map}
use Rattle.card_model.specs.Allocation.{part_of, parts}
use Rattle.card_segments.proofs.allocation.parts_of.Given as goal

abbrev pub invariant-loop-holding : goal.invariant-loop-holding
invariant-loop-holding l =
    l.list.items ++ filter_map part_of (drop l.holding-index l.holdings) ≡ parts (record { left = l.holdings; credit = l.credit })
