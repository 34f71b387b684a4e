use Rattle.card_segments.proofs.Totals.{total-owed}
use Rattle.card_segments.proofs.laws.owed_is_the_sum.Goals as goal

pub returns : goal.returns
returns c = total-owed
