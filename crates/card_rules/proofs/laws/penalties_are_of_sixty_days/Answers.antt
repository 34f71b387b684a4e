use Rattle.card_rules.proofs.SixtyDays.{penalties_are_of_sixty_days as law}
use Rattle.card_rules.proofs.laws.penalties_are_of_sixty_days.Goals as goal

pub returns : goal.returns
returns c = law
