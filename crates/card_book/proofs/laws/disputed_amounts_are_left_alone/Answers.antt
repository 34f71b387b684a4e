use Rattle.card_book.proofs.Disputed.{disputed_amounts_are_left_alone as law}
use Rattle.card_book.proofs.laws.disputed_amounts_are_left_alone.Goals as goal

pub returns : goal.returns
returns c = law
