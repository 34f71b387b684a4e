use Rattle.std.proofs.Common.{ap, sym, ◌∙◌}
use Rattle.card_reasons.specs.Reasons.{judged_of}
use Rattle.card_model.specs.Refusals.{reason_against}
use Rattle.card_reasons.proofs.ReasonLemmas.{notice_dated, plan_dated}
use Rattle.card_reasons.proofs.reason.rate_reason.Goals as goal

pub plan_reason-requires-clause-dated : goal.plan_reason-requires-clause-dated
plan_reason-requires-clause-dated c = (plan_dated c.args.post.now c.in-Plan.day c.in-Plan.rate c.in-Plan.end c.in-Plan.after c.in-Plan.kind c.in-Plan.is c.requires.dated).0

pub plan_reason-requires-clause-ends : goal.plan_reason-requires-clause-ends
plan_reason-requires-clause-ends c = (plan_dated c.args.post.now c.in-Plan.day c.in-Plan.rate c.in-Plan.end c.in-Plan.after c.in-Plan.kind c.in-Plan.is c.requires.dated).1

pub notice_reason-requires-clause-dated : goal.notice_reason-requires-clause-dated
notice_reason-requires-clause-dated c = notice_dated c.args.post.now c.in-Notice.day c.in-Notice.rate c.in-Notice.effective c.in-Notice.category c.in-Notice.is c.requires.dated

pub returns-in-Plan : goal.returns-in-Plan
returns-in-Plan c shared issued stands = c.plan_reason.ensures shared issued c.in-Plan.kind ∙ ap (reason_against (judged_of c.args.today shared issued c.args.posts.now.history)) (sym c.in-Plan.is)

pub returns-in-Notice : goal.returns-in-Notice
returns-in-Notice c shared issued stands = c.notice_reason.ensures shared issued ∙ ap (reason_against (judged_of c.args.today shared issued c.args.posts.now.history)) (sym c.in-Notice.is)

pub returns-in-Lower : goal.returns-in-Lower
returns-in-Lower c shared issued stands = c.lower_reason.ensures shared issued c.in-Lower.category ∙ ap (reason_against (judged_of c.args.today shared issued c.args.posts.now.history)) (sym c.in-Lower.is)

pub returns-in-Review : goal.returns-in-Review
returns-in-Review c shared issued stands = c.review_reason.ensures c.in-Review.finding shared issued stands ∙ ap (reason_against (judged_of c.args.today shared issued c.args.posts.now.history)) (sym c.in-Review.is)
