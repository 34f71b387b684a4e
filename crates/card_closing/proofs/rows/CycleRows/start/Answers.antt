use Rattle.std.proofs.Common.{refl}
use Rattle.card_closing.specs.Runs.{spread}
use Rattle.card_closing.proofs.rows.CycleRows.start.Goals as goal

pub returns : goal.returns
unfolding spread
returns c = rw (c.new.ensures.items, c.new-2.ensures.items) refl
