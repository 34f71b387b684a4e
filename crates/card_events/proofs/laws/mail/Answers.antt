use Rattle.std.proofs.Common.{◌∙◌, subst, sym}
use Rattle.card_events.specs.Business.{IsGreatestMet}
use Rattle.card_events.proofs.Cycles.{IsAnchor}
use Rattle.card_events.proofs.MailLaws.{mail_met, mail_unmet, credit_mail}
use Rattle.card_events.proofs.laws.mail.Goals as goal

anchored : (c : goal.After-is_business) → IsAnchor c.args.a
anchored c = record { first = c.number.ensures.first; last = c.number.ensures.last; low = c.requires.receipt.close_day.0; high = c.requires.receipt.close_day.1 }

pub returns-clause-met : goal.returns-clause-met
returns-clause-met c = λ k one met.
    subst (IsGreatestMet c.args.a c.args.cal.now c.args.receipt) (sym (credit_mail c.args.a c.args.cal.now c.args.receipt c.args.minute c.requires.in_time))
    (mail_met c.args.a (anchored c) c.args.cal.now c.args.receipt k c.is_business.ensures.holidays c.requires.receipt.opened c.requires.receipt.last one met)

pub returns-clause-unmet : goal.returns-clause-unmet
returns-clause-unmet c = λ never.
    credit_mail c.args.a c.args.cal.now c.args.receipt c.args.minute c.requires.in_time
    ∙ mail_unmet c.args.a (anchored c) c.args.cal.now c.args.receipt c.is_business.ensures.holidays c.requires.receipt.opened c.requires.receipt.last never
