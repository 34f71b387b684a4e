use Rattle.card_fees.proofs.Tallies.{tallies-stay}
use Rattle.card_fees.proofs.tally_laws.tallies_stay.Goals as goal

pub returns : goal.returns
returns c = tallies-stay
