use Rattle.std.proofs.Common.{◌≡◌, ◌++◌, take}
use Rattle.std.specs.Prelude.{flat_map}
use Rattle.std.specs.List.{All}
use Rattle.card_statement.specs.Packing.{IsAmount, amount_words}
use Rattle.card_statement.proofs.packing.put_amounts.Given as goal

abbrev pub invariant-loop-place : goal.invariant-loop-place
invariant-loop-place l = (l.words.items ≡ l.initial.words.items ++ flat_map amount_words (take l.place l.amounts)) × All IsAmount (take l.place l.amounts)
