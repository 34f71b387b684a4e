-- The first day on which a corrected list differs from what it was.
use Rattle.std.specs.Prelude.{ℕ, suc, ◌-◌, min, ◌<◌, ◌≤◌, ◌≡◌, Bool, ◌&&◌, ◌==◌, nat_le, if◌then◌else◌, List, [], ◌∷◌, length, take, slice_index_or, slice_set}
use Rattle.std.specs.List.{All, filter}
use Rattle.card_events.specs.History.{CorrectedPost}
use Rattle.card_posts.specs.declared.effect.Effect.{Effect}

-- the posts that are effective on a day
abbrev pub on : ℕ → List CorrectedPost → List CorrectedPost
on day posts = filter (λ p. p.day == day) posts

-- those that are effective on this day or before
abbrev pub up_to : ℕ → List CorrectedPost → List CorrectedPost
up_to day posts = filter (λ p. nat_le p.day day) posts

-- the day is the earliest on which the lists differ: up to each day before it they agree, and on the day itself they don't
pub record IsFirstChange (from : ℕ) (old new : List CorrectedPost) : Type 0 where
  pub before : (day : ℕ) → day < from → up_to day new ≡ up_to day old
  pub differs : on from new ≡ on from old → ⊥

-- nothing of it has changed
abbrev pub stands : Effect → Effect → Bool
stands e f = (e.day == f.day) && (e.cents == f.cents)

-- the first day known to differ, after one more post was looked at
abbrev pub after_one : ℕ → Effect → Effect → ℕ
after_one first e f = if stands e f then first else min first (min e.day f.day)

-- the least of a day and the days that changed posts leave or come to
unfoldable pub first_change : ℕ → List Effect → List Effect → ℕ
first_change first [] fs = first
first_change first (e ∷ es) [] = first
first_change first (e ∷ es) (f ∷ fs) = first_change (after_one first e f) es fs

-- a number is none of these
abbrev pub IsApart : ℕ → List ℕ → Type 0
IsApart n [] = Unit {0}
IsApart n (w ∷ ws) = (w ≡ n → ⊥) × IsApart n ws

-- the numbers ascend, from this one on
abbrev pub IsFrom : ℕ → List ℕ → Type 0
IsFrom low [] = Unit {0}
IsFrom low (w ∷ ws) = (low ≤ w) × IsFrom (suc w) ws

-- the same counts for each post whose number is none of these, which ascend and are numbers of posts
pub record AgreeBut (numbers : List ℕ) (es fs : List Effect) : Type 0 where
  pub from : IsFrom 1 numbers
  pub within : All (λ n. n ≤ length es) numbers
  pub long : length fs ≡ length es
  pub same : (i : ℕ) (d : Effect) → IsApart (suc i) numbers → slice_index_or es i d ≡ slice_index_or fs i d

-- the posts for which something else may count with one that is corrected: where it stays on its day none, and else those that wait
abbrev pub following : Effect → Effect → List ℕ → List ℕ
following before now waiting = if before.day == now.day then [] else waiting

-- What counts with one more post, which corrects the one with this number, 0 for none. Nothing else counts for a post before that
-- one, nor for one that doesn't follow it; and none that follows leaves or comes to a day before those of that one
pub record IsMoved (number : ℕ) (waiting : List ℕ) (old new : List Effect) : Type 0 where
  pub within : number ≤ length old
  pub none : number ≡ 0 → new ≡ old
  pub front : 0 < number → take (number - 1) old ≡ take (number - 1) new
  pub others : (d : Effect) → 0 < number
      → AgreeBut (following (slice_index_or old (number - 1) d) (slice_index_or new (number - 1) d) waiting) (slice_set old (number - 1) (slice_index_or new (number - 1) d)) new
  pub first : (first : ℕ) (d : Effect) → 0 < number → first_change first old new ≡ after_one first (slice_index_or old (number - 1) d) (slice_index_or new (number - 1) d)
