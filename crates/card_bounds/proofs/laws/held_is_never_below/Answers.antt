use Rattle.card_bounds.proofs.HeldDays.{held_is_never_below as law}
use Rattle.card_bounds.proofs.laws.held_is_never_below.Goals as goal

pub returns : goal.returns
returns c = law
