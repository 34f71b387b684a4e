use Rattle.card_rates.proofs.Spans.{spans_keep_rates as law}
use Rattle.card_rates.proofs.laws.spans_keep_rates.Goals as goal

pub returns : goal.returns
returns c = law
