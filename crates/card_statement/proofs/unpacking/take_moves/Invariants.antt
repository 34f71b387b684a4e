use Rattle.card_statement.specs.Packing.{move_in}
use Rattle.card_statement.proofs.PackingSteps.{Reads}
use Rattle.card_statement.proofs.unpacking.take_moves.Given as goal

abbrev pub invariant-loop : goal.invariant-loop
invariant-loop l = Reads move_in 2 l.count l.counter l.initial.rest.now l.lines.items l.rest.now
