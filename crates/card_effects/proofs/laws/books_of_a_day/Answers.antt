use Rattle.card_effects.proofs.DayLaws.{books_of_a_day}
use Rattle.card_effects.proofs.laws.books_of_a_day.Goals as goal

pub returns : goal.returns
returns c = books_of_a_day
