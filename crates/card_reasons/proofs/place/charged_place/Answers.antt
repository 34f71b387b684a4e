use Rattle.std.proofs.Common.{true, false, refl, sym, ◌∙◌}
use Rattle.card_reasons.proofs.PlaceLemmas.{charged}
use Rattle.card_reasons.proofs.place.charged_place.Goals as goal
use Rattle.card_model.specs.Refusals.{is_outside_place}

pub returns-then-names_no_plan : goal.returns-then-names_no_plan
returns-then-names_no_plan c now cents same =
    charged now c.args.day cents c.args.place.now true (is_outside_place now c.args.day c.args.place.now) (sym c.if-names_no_plan.true ∙ c.names_no_plan.ensures now same) refl

pub returns-then-is_outside_place : goal.returns-then-is_outside_place
returns-then-is_outside_place c now cents same =
    charged now c.args.day cents c.args.place.now false true (sym c.if-names_no_plan.false ∙ c.names_no_plan.ensures now same) (sym c.if-is_outside_place.true ∙ c.is_outside_place.ensures now same)

pub returns-else-is_outside_place : goal.returns-else-is_outside_place
returns-else-is_outside_place c now cents same =
    charged now c.args.day cents c.args.place.now false false (sym c.if-names_no_plan.false ∙ c.names_no_plan.ensures now same) (sym c.if-is_outside_place.false ∙ c.is_outside_place.ensures now same)
