use Rattle.card_model.proofs.IndexDays.{index-latest}
use Rattle.card_model.proofs.laws.the_index_is_the_latest.Goals as goal

pub returns : goal.returns
returns c = index-latest
