use Rattle.std.proofs.Common.{◌<◌, ◌≤◌, length, sym, ◌∙◌, arith}
use Rattle.card_rates.proofs.Plans.{ends, fails, passes}
use Rattle.card_rates.proofs.plan.first_plan.Goals as goal

pub returns-then-is_plan_of : goal.returns-then-is_plan_of
returns-then-is_plan_of c =
    let s = c.get.result.now in
    let test = c.loop-id-test.true in
    let long = c.len-id-end.ensures.segments in
    let within : c.loop-id.id < length c.args.segments.now.segments = omega (arith, test, long) in
    sym (passes c.args.post c.args.today c.loop-id.id c.args.segments.now.segments s within (c.get.ensures s) (sym c.is_plan_of.ensures ∙ c.if-is_plan_of.true)) ∙ c.loop-id.invariant

pub loop-id-preserved : goal.loop-id-preserved
loop-id-preserved c =
    let s = c.get.result.now in
    let test = c.loop-id-test.true in
    let long = c.len-id-end.ensures.segments in
    let within : c.loop-id.id < length c.args.segments.now.segments = omega (arith, test, long) in
    sym (fails c.args.post c.args.today c.loop-id.id c.args.segments.now.segments s within (c.get.ensures s) (sym c.is_plan_of.ensures ∙ c.if-is_plan_of.false)) ∙ c.loop-id.invariant

pub returns : goal.returns
returns c =
    let test = c.loop-id-test.false in
    let long = c.len-id-end.ensures.segments in
    let past : length c.args.segments.now.segments ≤ c.loop-id.id = omega (arith, test, long) in
    sym (ends c.args.post c.args.today c.loop-id.id c.args.segments.now.segments past) ∙ c.loop-id.invariant
