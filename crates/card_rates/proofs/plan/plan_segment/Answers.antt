use Rattle.std.proofs.Common.{ap, ◌∙◌}
use Rattle.card_rates.specs.Segments.{plan_from}
use Rattle.card_rates.proofs.Plans.{plan-is}
use Rattle.card_rates.proofs.plan.plan_segment.Goals as goal

pub returns : goal.returns
returns c history issued shared same =
    c.first_plan.ensures ∙ (ap (plan_from c.args.post c.args.today 0) same ∙ plan-is c.args.post c.args.today history issued shared)
