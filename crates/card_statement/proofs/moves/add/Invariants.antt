use Rattle.std.proofs.Common.{◌≡◌, ◌++◌, take, drop}
use Rattle.card_statement.specs.Gathering.{with_entry}
use Rattle.card_statement.proofs.moves.add.Given as goal

abbrev pub invariant-loop-i : goal.invariant-loop-i
invariant-loop-i l = record {
  same : l.moves.items ≡ l.initial.moves.items;
  left : with_entry l.entry l.initial.moves.items ≡ take l.i l.initial.moves.items ++ with_entry l.entry (drop l.i l.initial.moves.items);
}
