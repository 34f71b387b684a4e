use Rattle.card_fees.proofs.Tallies.{tallies-go-on}
use Rattle.card_fees.proofs.tally_laws.tallies_go_on.Goals as goal

pub returns : goal.returns
returns c = tallies-go-on
