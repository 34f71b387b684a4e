use Rattle.card_bounds.proofs.OnDays.{entries_have_days as law}
use Rattle.card_bounds.proofs.laws.entries_have_days.Goals as goal

pub returns : goal.returns
returns c = law
