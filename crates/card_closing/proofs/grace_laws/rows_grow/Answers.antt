use Rattle.card_closing.proofs.Growing.{rows_grow}
use Rattle.card_closing.proofs.grace_laws.rows_grow.Goals as goal

pub returns : goal.returns
returns c = rows_grow
