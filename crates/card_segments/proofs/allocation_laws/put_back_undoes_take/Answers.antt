use Rattle.card_segments.proofs.Undone.{undone}
use Rattle.card_segments.proofs.allocation_laws.put_back_undoes_take.Goals as goal

pub returns : goal.returns
returns c = undone
