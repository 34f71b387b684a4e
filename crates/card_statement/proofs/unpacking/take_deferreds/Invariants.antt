use Rattle.card_statement.specs.Packing.{deferred_in}
use Rattle.card_statement.proofs.PackingSteps.{Reads}
use Rattle.card_statement.proofs.unpacking.take_deferreds.Given as goal

abbrev pub invariant-loop : goal.invariant-loop
invariant-loop l = Reads deferred_in 3 l.count l.counter l.initial.rest.now l.lines.items l.rest.now
