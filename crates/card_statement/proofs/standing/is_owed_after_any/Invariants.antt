use Rattle.std.proofs.Common.{◌≡◌, false, take}
use Rattle.std.specs.List.{list_any}
use Rattle.card_statement.specs.Standing.{is_owed_after}
use Rattle.card_statement.proofs.standing.is_owed_after_any.Given as goal

abbrev pub invariant-loop-entry : goal.invariant-loop-entry
invariant-loop-entry l = list_any (is_owed_after l.left l.entries l.segment l.first l.last) (take l.entry-index l.entries) ≡ false
