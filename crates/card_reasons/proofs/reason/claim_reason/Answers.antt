use Rattle.std.proofs.Common.{ap, sym, ◌∙◌}
use Rattle.card_reasons.specs.Reasons.{judged_of}
use Rattle.card_model.specs.Refusals.{reason_against}
use Rattle.card_reasons.proofs.reason.claim_reason.Goals as goal

pub returns-in-Dispute : goal.returns-in-Dispute
returns-in-Dispute c shared issued stands = c.dispute_reason.ensures shared issued stands ∙ ap (reason_against (judged_of c.args.today shared issued c.args.posts.now.history)) (sym c.in-Dispute.is)

pub returns-in-Ack : goal.returns-in-Ack
returns-in-Ack c shared issued stands = c.ack_reason.ensures shared issued ∙ ap (reason_against (judged_of c.args.today shared issued c.args.posts.now.history)) (sym c.in-Ack.is)

pub returns-in-Resolve : goal.returns-in-Resolve
returns-in-Resolve c shared issued stands = c.resolve_reason.ensures shared issued ∙ ap (reason_against (judged_of c.args.today shared issued c.args.posts.now.history)) (sym c.in-Resolve.is)

pub returns-in-AskRefund : goal.returns-in-AskRefund
returns-in-AskRefund c shared issued stands = c.ask_reason.ensures shared issued ∙ ap (reason_against (judged_of c.args.today shared issued c.args.posts.now.history)) (sym c.in-AskRefund.is)
