use Rattle.std.proofs.Common.{◌≡◌, ◌≤◌, length, take}
use Rattle.card_model.specs.DueDates.{due_after_day}
use Rattle.card_closing.proofs.penalty_end.dues_after.Given as goal

abbrev pub invariant-loop-cycle : goal.invariant-loop-cycle
invariant-loop-cycle l = record {
  counted : l.count ≡ length (due_after_day l.day (take l.cycle-index l.cycles));
  most : l.count ≤ l.cycle-index;
}
