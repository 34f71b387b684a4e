use Rattle.card_model.proofs.Calendar.{cycles_are_of_the_calendar as law}
use Rattle.card_model.proofs.laws.cycles_are_of_the_calendar.Goals as goal

pub returns : goal.returns
returns c = law
