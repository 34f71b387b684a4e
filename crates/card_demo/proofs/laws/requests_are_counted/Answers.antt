use Rattle.card_demo.proofs.PieceLemmas.{requests_are_counted as law}
use Rattle.card_demo.proofs.laws.requests_are_counted.Goals as goal

pub returns : goal.returns
returns c = law
