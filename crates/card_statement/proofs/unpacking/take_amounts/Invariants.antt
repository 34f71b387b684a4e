use Rattle.card_statement.specs.Packing.{amount_in}
use Rattle.card_statement.proofs.PackingSteps.{Reads}
use Rattle.card_statement.proofs.unpacking.take_amounts.Given as goal

abbrev pub invariant-loop : goal.invariant-loop
invariant-loop l = Reads amount_in 2 l.count l.counter l.initial.rest.now l.amounts l.rest.now
