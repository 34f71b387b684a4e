use Rattle.std.proofs.Common.{refl}
use Rattle.card_closing.specs.Runs.{spread}
use Rattle.card_closing.proofs.rows.CycleRows.begin.Goals as goal

pub returns : goal.returns
unfolding spread
returns c = rw (c.clear.ensures.items, c.clear-2.ensures.items) refl
