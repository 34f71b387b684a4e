use Rattle.std.proofs.Common.{ap, sym, ◌∙◌}
use Rattle.card_reasons.specs.Reasons.{judged_of}
use Rattle.card_model.specs.Refusals.{reason_against}
use Rattle.card_reasons.proofs.reason.entry_reason.Goals as goal

pub returns-in-Charge : goal.returns-in-Charge
returns-in-Charge c shared issued = c.charge_reason.ensures shared issued ∙ ap (reason_against (judged_of c.args.today shared issued c.args.posts.now.history)) (sym c.in-Charge.is)

pub returns-in-Credit : goal.returns-in-Credit
returns-in-Credit c shared issued = c.credit_reason.ensures shared issued ∙ ap (reason_against (judged_of c.args.today shared issued c.args.posts.now.history)) (sym c.in-Credit.is)

pub returns-in-Payment : goal.returns-in-Payment
returns-in-Payment c shared issued = c.payment_reason.ensures shared issued c.in-Payment.channel ∙ ap (reason_against (judged_of c.args.today shared issued c.args.posts.now.history)) (sym c.in-Payment.is)

pub returns-in-Return : goal.returns-in-Return
returns-in-Return c shared issued = c.return_reason.ensures shared issued ∙ ap (reason_against (judged_of c.args.today shared issued c.args.posts.now.history)) (sym c.in-Return.is)

pub returns-in-Amend : goal.returns-in-Amend
returns-in-Amend c shared issued = c.amend_reason.ensures shared issued ∙ ap (reason_against (judged_of c.args.today shared issued c.args.posts.now.history)) (sym c.in-Amend.is)
