-- Whether two posts have the same content.
use Rattle.std.specs.Prelude.{Bool, true, false, ◌&&◌, ◌==◌}
use Rattle.card_events.specs.declared.anchor.Channel.{Channel}
use Rattle.card_events.specs.declared.anchor.Channel.TheVariants as channel
use Rattle.card_events.specs.declared.post.Category.{Category}
use Rattle.card_events.specs.declared.post.Category.TheVariants as category
use Rattle.card_events.specs.declared.post.Finding.{Finding}
use Rattle.card_events.specs.declared.post.Finding.TheVariants as finding
use Rattle.card_events.specs.declared.post.Place.{Place}
use Rattle.card_events.specs.declared.post.Place.TheVariants as place
use Rattle.card_events.specs.declared.post.PlanKind.{PlanKind}
use Rattle.card_events.specs.declared.post.PlanKind.TheVariants as plan
use Rattle.card_events.specs.declared.post.Post.{Post}
use Rattle.card_events.specs.declared.post.Post.TheVariants as post
use Rattle.card_events.specs.declared.post.Terms.{Terms}

-- one category
abbrev pub is_same_category : Category → Category → Bool
is_same_category category.Purchase category.Purchase = true
is_same_category category.Cash category.Cash = true
is_same_category category.Transfer category.Transfer = true
is_same_category _ _ = false

-- one place: a category, or the plan of one number
abbrev pub is_same_place : Place → Place → Bool
is_same_place place.Purchase place.Purchase = true
is_same_place place.Cash place.Cash = true
is_same_place place.Transfer place.Transfer = true
is_same_place (place.Plan n) (place.Plan m) = n == m
is_same_place _ _ = false

-- one kind of plan
abbrev pub is_same_plan : PlanKind → PlanKind → Bool
is_same_plan plan.Promo plan.Promo = true
is_same_plan plan.Deferred plan.Deferred = true
is_same_plan _ _ = false

-- one finding
abbrev pub is_same_finding : Finding → Finding → Bool
is_same_finding finding.Keep finding.Keep = true
is_same_finding finding.Reduce finding.Reduce = true
is_same_finding _ _ = false

-- one channel
abbrev pub is_same_channel : Channel → Channel → Bool
is_same_channel channel.Mail channel.Mail = true
is_same_channel channel.Online channel.Online = true
is_same_channel _ _ = false

-- all terms equal
abbrev pub are_same_terms : Terms → Terms → Bool
are_same_terms t u =
    (t.close == u.close) && (t.purchase == u.purchase) && (t.cash == u.cash) && (t.transfer == u.transfer)
    && (t.penalty == u.penalty) && (t.floor == u.floor) && (t.pct == u.pct)

-- two posts of one kind whose fields are equal
unfoldable pub is_same_post : Post → Post → Bool
is_same_post (post.Open d t) (post.Open e u) = (d == e) && are_same_terms t u
is_same_post (post.OpenVariable d t) (post.OpenVariable e u) = (d == e) && are_same_terms t u
is_same_post (post.Charge d p c) (post.Charge e q b) = (d == e) && is_same_place p q && (c == b)
is_same_post (post.Credit d p c) (post.Credit e q b) = (d == e) && is_same_place p q && (c == b)
is_same_post (post.Payment d m h c) (post.Payment e n i b) = (d == e) && (m == n) && is_same_channel h i && (c == b)
is_same_post (post.Return d t) (post.Return e u) = (d == e) && (t == u)
is_same_post (post.Plan d k r f a) (post.Plan e l s g b) = (d == e) && is_same_plan k l && (r == s) && (f == g) && (a == b)
is_same_post (post.Notice d c r f) (post.Notice e b s g) = (d == e) && is_same_category c b && (r == s) && (f == g)
is_same_post (post.Lower d c r) (post.Lower e b s) = (d == e) && is_same_category c b && (r == s)
is_same_post post.Penalty post.Penalty = true
is_same_post (post.Review d f) (post.Review e g) = (d == e) && is_same_finding f g
is_same_post (post.Dispute d t c) (post.Dispute e u b) = (d == e) && (t == u) && (c == b)
is_same_post (post.Ack d t) (post.Ack e u) = (d == e) && (t == u)
is_same_post (post.Resolve d t c) (post.Resolve e u b) = (d == e) && (t == u) && (c == b)
is_same_post (post.AskRefund d) (post.AskRefund e) = d == e
is_same_post (post.Refund c) (post.Refund b) = c == b
is_same_post (post.Amend t d c) (post.Amend u e b) = (t == u) && (d == e) && (c == b)
is_same_post (post.Bill c) (post.Bill b) = c == b
is_same_post _ _ = false
