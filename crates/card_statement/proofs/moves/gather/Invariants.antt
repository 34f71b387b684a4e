use Rattle.std.proofs.Common.{◌≡◌, ◌≤◌, All, take}
use Rattle.std.specs.List.{filter}
use Rattle.std.specs.Prelude.{nat_abs}
use Rattle.card_statement.specs.Gathering.{AreUpTo, sizes}
use Rattle.card_model.specs.Sheets.{gathered, moves_owed}
use Rattle.card_statement.proofs.moves.gather.Given as goal

abbrev pub invariant-loop-i : goal.invariant-loop-i
invariant-loop-i l = record {
  gathered : l.moves.items ≡ gathered (filter moves_owed (take l.i l.entries));
  small : All (λ m. nat_abs m.cents ≤ sizes (take l.i l.entries)) l.moves.items;
  up_to : AreUpTo l.latest l.from l.moves.items;
}
