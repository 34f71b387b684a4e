-- Rate increases and their reviews, post by post.
use Rattle.std.specs.Prelude.{ℕ, Bool, false, nat_le, if◌then◌else◌, max, min, List, Option, Some, None}
use Rattle.std.specs.List.{filter_map}
use Rattle.card_events.specs.declared.kept.Kept.{Kept}
use Rattle.card_events.specs.declared.post.Post.{Post}
use Rattle.card_model.specs.Deadlines.{increase_of, review_of}

-- there is a day, and it is this one or earlier
abbrev pub is_by : ℕ → Option ℕ → Bool
is_by day None = false
is_by day (Some d) = nat_le d day

-- the post raises a rate from this day on, or an earlier one
abbrev pub is_increase_by : ℕ → Kept → Bool
is_increase_by day k = is_by day (increase_of k.accepted k.post)

-- a day that isn't after this one
abbrev pub until : ℕ → Option ℕ → Option ℕ
until day None = None
until day (Some d) = if nat_le d day then Some d else None

-- the day of the increase that a post makes, where it isn't after this day
abbrev pub increase_by : ℕ → Kept → Option ℕ
increase_by day k = until day (increase_of k.accepted k.post)

-- the same of the post there
abbrev pub increase_at : ℕ → Option Kept → Option ℕ
increase_at day None = None
increase_at day (Some k) = increase_by day k

-- the days of all increases that have taken effect by a day
abbrev pub increases_by : ℕ → List Kept → List ℕ
increases_by day history = filter_map (increase_by day) history

-- the earlier of two days, where both are there
abbrev pub least_of : Option ℕ → Option ℕ → Option ℕ
least_of None o = o
least_of (Some a) None = Some a
least_of (Some a) (Some b) = Some (min a b)

-- the later of a day and another one, where there is one
abbrev pub latest : Option ℕ → ℕ → ℕ
latest None day = day
latest (Some d) day = max day d

-- the later of a day and that of a Review
abbrev pub reviewed_by : Post → ℕ → ℕ
reviewed_by p day = latest (review_of p) day

-- the same of the post there
abbrev pub review_at : Option Kept → ℕ → ℕ
review_at None day = day
review_at (Some k) day = reviewed_by k.post day
