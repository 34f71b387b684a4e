use Rattle.card_billed.proofs.Late.{later_posts_leave_it as law}
use Rattle.card_billed.proofs.later_posts_leave_it.Goals as goal

pub returns : goal.returns
returns c = law
