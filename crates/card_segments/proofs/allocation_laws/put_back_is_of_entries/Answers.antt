use Rattle.card_segments.proofs.Returned.{returned-is}
use Rattle.card_segments.proofs.allocation_laws.put_back_is_of_entries.Goals as goal

pub returns : goal.returns
returns c = returned-is
