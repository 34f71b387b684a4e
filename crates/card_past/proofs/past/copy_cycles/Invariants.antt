use Rattle.std.proofs.Common.{◌≡◌, take}
use Rattle.card_past.proofs.past.copy_cycles.Given as goal

abbrev pub invariant-loop-cycle : goal.invariant-loop-cycle
invariant-loop-cycle l = l.copy.items ≡ take l.cycle-index l.cycles
