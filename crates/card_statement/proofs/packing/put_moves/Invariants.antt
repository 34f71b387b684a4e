use Rattle.std.proofs.Common.{◌≡◌, ◌++◌, take}
use Rattle.std.specs.Prelude.{flat_map}
use Rattle.std.specs.List.{All}
use Rattle.card_statement.specs.Packing.{IsMove, move_words}
use Rattle.card_statement.proofs.packing.put_moves.Given as goal

abbrev pub invariant-loop-line : goal.invariant-loop-line
invariant-loop-line l = (l.words.items ≡ l.initial.words.items ++ flat_map move_words (take l.line-index l.lines)) × All IsMove (take l.line-index l.lines)
