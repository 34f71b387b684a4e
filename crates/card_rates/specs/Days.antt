-- The posts of a day, in the order in which they are folded.
use Rattle.std.specs.Prelude.{◌≡◌, ℕ, ◌+◌, ◌<◌, nat_lt, if◌then◌else◌, List, length, slice_index_or, Option, Some, None}
use Rattle.std.specs.List.{count_by}
use Rattle.std.specs.Prelude.{option_map}
use Rattle.card_events.specs.History.{CorrectedPost, at_number, is_folded, slot_of}
use Rattle.card_events.specs.declared.kept.Kept.{Kept}
use Rattle.card_events.specs.declared.kept.Slot.{Slot}
use Rattle.card_posts.specs.Change.{on}
use Rattle.card_posts.specs.Posted.{Posted, StandsFor}
use Rattle.card_rates.specs.declared.day.DayPost.{DayPost}

-- the place of a day among all posts: how many are of earlier days
abbrev pub place_of : ℕ → List CorrectedPost → ℕ
place_of day posts = count_by (λ p. nat_lt p.day day) posts

-- how many slots are of earlier days
abbrev pub slots_before : ℕ → List Slot → ℕ
slots_before day slots = count_by (λ s. nat_lt s.day day) slots

-- a corrected post without what its fold doesn't read
abbrev pub day_post : CorrectedPost → DayPost
day_post p = record { slot = slot_of p; post = p.post }

-- and none of a kind that isn't folded
abbrev pub only_folded : Option DayPost → Option DayPost
only_folded None = None
only_folded (Some d) = if is_folded d.post then Some d else None

abbrev pub folded_post : CorrectedPost → Option DayPost
folded_post p = only_folded (Some (day_post p))

-- under the holidays of the corrected list, where the i-th post of a day stands at the place, the fold of the day reads this
-- of it
abbrev pub IsFoldedAt : ℕ → Posted → Option DayPost → Type 0
IsFoldedAt place posts found =
    (holidays : List ℕ) (day i : ℕ) (p : CorrectedPost) → StandsFor holidays posts → place ≡ place_of day posts.corrected + i → i < length (on day posts.corrected)
    → found ≡ folded_post (slice_index_or (on day posts.corrected) i p)

-- the post of a slot
abbrev pub slot_post : Slot → Kept → DayPost
slot_post s k = record { slot = s; post = k.post }

-- the post of a slot, where both are there
abbrev pub found_for : List Kept → Option Slot → Option DayPost
found_for history None = None
found_for history (Some s) = option_map (slot_post s) (at_number s.number history)
