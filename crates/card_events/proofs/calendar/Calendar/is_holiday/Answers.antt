use Rattle.std.proofs.Common.{◌∙◌}
use Rattle.card_events.proofs.Holidays.{answered}
use Rattle.card_events.proofs.calendar.Calendar.is_holiday.Goals as goal

pub returns-clause-value : goal.returns-clause-value
returns-clause-value c = c.is_ok.ensures.value ∙ answered c.place.result c.args.self.now c.args.day c.place.ensures.place
