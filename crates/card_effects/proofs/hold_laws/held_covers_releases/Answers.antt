use Rattle.card_effects.proofs.Covers.{held_covers_releases as law}
use Rattle.card_effects.proofs.hold_laws.held_covers_releases.Goals as goal

pub returns : goal.returns
returns c = law
