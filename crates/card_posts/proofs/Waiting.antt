-- What a post waits for is what it names.
use Rattle.std.proofs.Common.{ℕ, ◌≤◌, arith}
use Rattle.card_events.specs.declared.post.Post.{Post}
use Rattle.card_events.specs.declared.post.Post.TheVariants as post
use Rattle.card_waits.specs.Waits.{awaited}
use Rattle.card_posts.specs.Posted.{target_of}

pub awaited-target : (p : Post) (n : ℕ) → target_of p ≤ n → awaited p ≤ n
awaited-target (post.Open d t) n l = omega arith
awaited-target (post.OpenVariable d t) n l = omega arith
awaited-target (post.Charge d p c) n l = omega arith
awaited-target (post.Credit d p c) n l = omega arith
awaited-target (post.Payment d i y c) n l = omega arith
awaited-target (post.Return d t) n l = l
awaited-target (post.Plan d v r w f) n l = omega arith
awaited-target (post.Notice d y r w) n l = omega arith
awaited-target (post.Lower d y r) n l = omega arith
awaited-target post.Penalty n l = omega arith
awaited-target (post.Review d f) n l = omega arith
awaited-target (post.Dispute d t c) n l = l
awaited-target (post.Ack d t) n l = omega arith
awaited-target (post.Resolve d t c) n l = l
awaited-target (post.AskRefund d) n l = omega arith
awaited-target (post.Refund c) n l = omega arith
awaited-target (post.Amend t d c) n l = omega arith
awaited-target (post.Bill c) n l = omega arith
