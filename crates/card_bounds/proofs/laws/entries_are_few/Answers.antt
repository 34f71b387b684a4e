use Rattle.card_bounds.proofs.CountDays.{entries_are_few as law}
use Rattle.card_bounds.proofs.laws.entries_are_few.Goals as goal

pub returns : goal.returns
returns c = law
