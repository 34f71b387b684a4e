use Rattle.std.proofs.Common.{true, false, sym, ◌∙◌}
use Rattle.card_reasons.proofs.PlaceLemmas.{credited}
use Rattle.card_reasons.proofs.place.credited_place.Goals as goal

pub returns-then-names_no_plan : goal.returns-then-names_no_plan
returns-then-names_no_plan c now day cents same = credited now day cents c.args.place.now true (sym c.if-names_no_plan.true ∙ c.names_no_plan.ensures now same)

pub returns-else-names_no_plan : goal.returns-else-names_no_plan
returns-else-names_no_plan c now day cents same = credited now day cents c.args.place.now false (sym c.if-names_no_plan.false ∙ c.names_no_plan.ensures now same)
