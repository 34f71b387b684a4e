use Rattle.card_segments.proofs.Unposted.{balances_before as law}
use Rattle.card_segments.proofs.laws.balances_before.Goals as goal

pub returns : goal.returns
returns c = law
