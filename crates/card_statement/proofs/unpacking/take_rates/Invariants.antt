use Rattle.card_statement.specs.Packing.{rate_in}
use Rattle.card_statement.proofs.PackingSteps.{Reads}
use Rattle.card_statement.proofs.unpacking.take_rates.Given as goal

abbrev pub invariant-loop : goal.invariant-loop
invariant-loop l = Reads rate_in 5 l.count l.counter l.initial.rest.now l.lines.items l.rest.now
