use Rattle.card_bounds.proofs.OnSegments.{entries_have_segments as law}
use Rattle.card_bounds.proofs.laws.entries_have_segments.Goals as goal

pub returns : goal.returns
returns c = law
