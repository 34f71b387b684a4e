use Rattle.std.proofs.Common.{◌∙◌, Bool, cond, ap, arith, sym}
use Rattle.card_events.proofs.MailDays.{mail_day-some, mail_day-none}
use Rattle.card_events.proofs.credit.mail_day.Goals as goal

pub returns-then-meets-clause-value : goal.returns-then-meets-clause-value
returns-then-meets-clause-value c =
    let is = mail_day-some c.args.a c.args.cal.now c.args.receipt c.in-Some.due c.meets.ensures.holidays c.requires.receipt.last c.in-Some.ensures.from_opening c.in-Some.ensures.last in
    sym (is ∙ ap (λ (b : Bool). cond b c.in-Some.due c.args.receipt) (sym c.meets.ensures.value ∙ c.if-meets.true))

pub returns-else-meets-clause-value : goal.returns-else-meets-clause-value
returns-else-meets-clause-value c =
    let is = mail_day-some c.args.a c.args.cal.now c.args.receipt c.in-Some.due c.meets.ensures.holidays c.requires.receipt.last c.in-Some.ensures.from_opening c.in-Some.ensures.last in
    sym (is ∙ ap (λ (b : Bool). cond b c.in-Some.due c.args.receipt) (sym c.meets.ensures.value ∙ c.if-meets.false))

pub returns-in-None-clause-value : goal.returns-in-None-clause-value
returns-in-None-clause-value c = sym (mail_day-none c.args.a c.args.cal.now c.args.receipt (omega (arith, c.last_due.ensures.first)) c.in-None.ensures.last)
