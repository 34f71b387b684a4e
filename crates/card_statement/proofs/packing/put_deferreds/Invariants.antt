use Rattle.std.proofs.Common.{◌≡◌, ◌++◌, take}
use Rattle.std.specs.Prelude.{flat_map}
use Rattle.std.specs.List.{All}
use Rattle.card_statement.specs.Packing.{IsDeferred, deferred_words}
use Rattle.card_statement.proofs.packing.put_deferreds.Given as goal

abbrev pub invariant-loop-line : goal.invariant-loop-line
invariant-loop-line l = (l.words.items ≡ l.initial.words.items ++ flat_map deferred_words (take l.line-index l.lines)) × All IsDeferred (take l.line-index l.lines)
