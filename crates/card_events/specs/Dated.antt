-- Days of requests.
use Rattle.std.specs.Prelude.{ℕ, Bool, true, ◌&&◌, nat_le}
use Rattle.card_events.specs.Range.{last_request_day}
use Rattle.card_events.specs.declared.post.Post.{Post}
use Rattle.card_events.specs.declared.post.Post.TheVariants as post
use Rattle.card_events.specs.declared.request.Shared.{Shared}
use Rattle.card_events.specs.declared.request.Shared.TheVariants as shared
use Rattle.card_events.specs.declared.request.Request.{Request}
use Rattle.card_events.specs.declared.request.Request.TheVariants as request

-- requests have days up to 2099-12-31, and a Day is never before 2011-01-01
abbrev pub is_request_day : ℕ → Bool
is_request_day day = nat_le day last_request_day

-- every day in the post is a day of requests
unfoldable pub is_dated_post : Post → Bool
is_dated_post (post.Open day _) = is_request_day day
is_dated_post (post.OpenVariable day _) = is_request_day day
is_dated_post (post.Charge day _ _) = is_request_day day
is_dated_post (post.Credit day _ _) = is_request_day day
is_dated_post (post.Payment day _ _ _) = is_request_day day
is_dated_post (post.Return day _) = is_request_day day
is_dated_post (post.Plan day _ _ end _) = is_request_day day && is_request_day end
is_dated_post (post.Notice day _ _ effective) = is_request_day day && is_request_day effective
is_dated_post (post.Lower day _ _) = is_request_day day
is_dated_post post.Penalty = true
is_dated_post (post.Review day _) = is_request_day day
is_dated_post (post.Dispute day _ _) = is_request_day day
is_dated_post (post.Ack day _) = is_request_day day
is_dated_post (post.Resolve day _ _) = is_request_day day
is_dated_post (post.AskRefund day) = is_request_day day
is_dated_post (post.Refund _) = true
is_dated_post (post.Amend _ day _) = is_request_day day
is_dated_post (post.Bill _) = true

-- the day of the shared request is a day of requests
unfoldable pub is_dated_shared : Shared → Bool
is_dated_shared (shared.Roll day) = is_request_day day
is_dated_shared (shared.Holiday day) = is_request_day day
is_dated_shared (shared.FeeRow day _ _) = is_request_day day
is_dated_shared (shared.Index day _) = is_request_day day

-- every day in the request is a day of requests
unfoldable pub is_dated : Request → Bool
is_dated (request.Shared r) = is_dated_shared r
is_dated (request.Post _ _ p) = is_dated_post p
