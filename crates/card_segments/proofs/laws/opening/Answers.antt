use Rattle.std.proofs.Common.{refl}
use Rattle.card_model.specs.Segments.{segments}
use Rattle.card_segments.proofs.laws.opening.Goals as goal

pub returns : goal.returns
unfolding segments
returns c anchor terms = refl
