use Rattle.card_model.proofs.Past.{past_is_enough as law}
use Rattle.card_book.proofs.laws.past_is_enough.Goals as goal

pub returns : goal.returns
returns c = law
