use Rattle.std.proofs.Common.{sym, ◌∙◌, arith}
use Rattle.card_effects.proofs.Places.{plan-found, plan-step}
use Rattle.card_effects.proofs.place.plan_segment.Goals as goal

pub returns-then-is_plan_by-clause-value : goal.returns-then-is_plan_by-clause-value
returns-then-is_plan_by-clause-value c gs numbers kept =
    let s = c.get.result.now in
    sym (c.loop-id.invariant gs numbers kept ∙ plan-found c.args.post c.args.day c.loop-id.id c.args.segments.now.segments gs s numbers kept (omega arith) (omega (arith, c.len-id-end.ensures.segments)) (c.get.ensures s) (sym c.is_plan_by.ensures ∙ c.if-is_plan_by.true))

pub loop-id-preserved : goal.loop-id-preserved
loop-id-preserved c gs numbers kept =
    let s = c.get.result.now in
    c.loop-id.invariant gs numbers kept ∙ plan-step c.args.post c.args.day c.loop-id.id c.args.segments.now.segments gs s kept (omega arith) (omega (arith, c.len-id-end.ensures.segments)) (c.get.ensures s) (sym c.is_plan_by.ensures ∙ c.if-is_plan_by.false)
