use Rattle.card_bounds.proofs.OnDays.{cycles_begin_in_turn as law}
use Rattle.card_bounds.proofs.laws.cycles_begin_in_turn.Goals as goal

pub returns : goal.returns
returns c = law
