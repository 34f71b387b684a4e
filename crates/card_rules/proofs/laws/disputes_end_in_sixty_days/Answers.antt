use Rattle.card_rules.proofs.DisputeDays.{disputes_end_in_sixty_days as law}
use Rattle.card_rules.proofs.laws.disputes_end_in_sixty_days.Goals as goal

pub returns : goal.returns
returns c = law
