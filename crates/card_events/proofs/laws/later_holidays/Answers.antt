use Rattle.card_events.proofs.Agree.{credit_day-agrees}
use Rattle.card_events.proofs.laws.later_holidays.Goals as goal

pub returns : goal.returns
returns c = credit_day-agrees c.args.a c.args.receipt c.args.minute c.args.by_mail c.args.these.now c.args.those.now c.requires
