-- Posts as the fold of a day sees them, by their numbers.
use Rattle.std.specs.Prelude.{ℕ, nat_le, if◌then◌else◌, List, Option, Some, None, option_map, unsigned_abs}
use Rattle.card_events.specs.History.{charge_disputed}
use Rattle.card_events.specs.declared.kept.Kept.{Kept}
use Rattle.card_events.specs.declared.kept.Slot.{Slot}
use Rattle.card_events.specs.declared.post.Post.{Post}
use Rattle.card_model.specs.Cycles.{Seen, post_at}
use Rattle.card_model.specs.Effects.{charge_at, is_charge, place_charged, place_segment}
use Rattle.card_model.specs.Segments.{SegmentTerms}
use Rattle.card_rates.specs.Days.{day_post, found_for, only_folded}
use Rattle.card_rates.specs.declared.day.DayPost.{DayPost}

-- ---- of the posts seen on a day
-- the post with a number
abbrev pub post_seen : Seen → ℕ → Option DayPost
post_seen seen n = option_map day_post (post_at n seen.posts)

-- the charge with a number
abbrev pub charge_seen : Seen → ℕ → Option DayPost
charge_seen seen n = option_map day_post (charge_at n seen.posts)

-- ---- of one post
-- the post of a slot, where it counts by a day and its kind is folded
abbrev pub post_by : ℕ → List Kept → Option Slot → Option DayPost
post_by day history None = None
post_by day history (Some s) = if nat_le s.day day then only_folded (found_for history (Some s)) else None

-- a charge alone
abbrev pub if_charge : DayPost → Option DayPost
if_charge p = if is_charge p.post then Some p else None

-- the segment of a post's place on a day
abbrev pub segment_in : List SegmentTerms → ℕ → Post → ℕ
segment_in all day p = place_segment day all (place_charged p)

-- the segment of a charge, the opening purchases where there is none
abbrev pub segment_of : List SegmentTerms → Option DayPost → ℕ
segment_of all None = 2
segment_of all (Some p) = segment_in all p.slot.day p.post

-- its cents, 0 where there is none
abbrev pub cents_of : Option DayPost → ℕ
cents_of None = 0
cents_of (Some p) = unsigned_abs p.slot.cents

-- the number of the charge that a Dispute names, 0 where there is no Dispute
abbrev pub charge_named : Option DayPost → ℕ
charge_named None = 0
charge_named (Some p) = charge_disputed p.post
