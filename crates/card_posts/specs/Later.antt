-- What later posts say of each post, and the list of the posts of which something is said.
use Rattle.std.specs.Prelude.{◌≡◌, ℕ, zero, suc, ◌<◌, ◌≤◌, ◌==◌, if◌then◌else◌, List, [], ◌∷◌, None, length, slice_index_or}
use Rattle.card_events.specs.Limits.{post_limit}
use Rattle.card_posts.specs.declared.correction.Correction.{Correction}
use Rattle.card_posts.specs.declared.correction_table.Said.{Said}

-- what is said of each post, by number; and of how many something is held, and of how many it can be
pub record Later : Type 0 where
  pub each : List Correction
  pub held : ℕ
  pub places : ℕ

-- there is room for what is said of one post more
abbrev pub HasSpare : Later → Type 0
HasSpare later = later.held < later.places

-- nothing is said of a post
abbrev pub nothing : Correction
nothing = record { amend = None; confirmed = 0 }

-- what a list says of post n
unfoldable pub said_of : ℕ → List Said → Correction
said_of n [] = nothing
said_of n (s ∷ said) = if s.number == n then s.correction else said_of n said

-- what it says of so many posts, the first of which is post n
unfoldable pub each_from : ℕ → ℕ → List Said → List Correction
each_from n zero said = []
each_from n (suc count) said = said_of n said ∷ each_from (suc n) count said

-- the numbers ascend, from this one on
unfoldable pub AreAscending : ℕ → List Said → Type 0
AreAscending low [] = Unit {0}
AreAscending low (s ∷ said) = (low ≤ s.number) × AreAscending (suc s.number) said

-- none is greater than this one
unfoldable pub AreWithin : ℕ → List Said → Type 0
AreWithin high [] = Unit {0}
AreWithin high (s ∷ said) = (s.number ≤ high) × AreWithin high said

-- a list says something of some of so many posts, by number
pub record AreSaid (count : ℕ) (said : List Said) : Type 0 where
  pub few : count ≤ post_limit
  pub ascending : AreAscending 1 said
  pub within : AreWithin count said

-- the numbers in front of the place are less than n, and none behind it is
pub record IsPlaceOf (n : ℕ) (said : List Said) (place : ℕ) : Type 0 where
  pub front : (k : ℕ) (d : Said) → k < place → k < length said → (slice_index_or said k d).number < n
  pub back : (k : ℕ) (d : Said) → place ≤ k → k < length said → n ≤ (slice_index_or said k d).number
  pub within : place ≤ length said

-- the new list says this of post n, and of the others what the old one says
pub record IsPut (n : ℕ) (c : Correction) (old new : List Said) : Type 0 where
  pub says : (m : ℕ) → said_of m new ≡ (if m == n then c else said_of m old)
  pub ascending : AreAscending 1 new
  pub within : (high : ℕ) → n ≤ high → AreWithin high old → AreWithin high new
