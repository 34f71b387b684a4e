use Rattle.card_posts.proofs.Following.{days-in-order}
use Rattle.card_posts.proofs.laws.days_by_number.Goals as goal

pub returns : goal.returns
returns c = days-in-order
