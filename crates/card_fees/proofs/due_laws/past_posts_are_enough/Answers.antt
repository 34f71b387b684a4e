use Rattle.card_fees.proofs.PastPosts.{past-posts}
use Rattle.card_fees.proofs.due_laws.past_posts_are_enough.Goals as goal

pub returns : goal.returns
returns c = past-posts
