use Rattle.std.proofs.Common.{◌≤◌, ◌-◌, ◌^◌, length}
use Rattle.card_commands.specs.Imported.{source_side, HasTaken}
use Rattle.card_commands.proofs.import.read_all.Given as goal

abbrev pub invariant-loop-bytes : goal.invariant-loop-bytes
invariant-loop-bytes g l =
    let at = source_side g.I.Source.left g.I.Source.faults in
    record {
      taken : HasTaken (at l.initial.input) (at l.input) l.bytes.items;
      limit : length l.bytes.items ≤ 2 ^ 30;
    }

abbrev pub decreases-loop-bytes : goal.decreases-loop-bytes
decreases-loop-bytes g l = 2 ^ 30 - length l.bytes.items
