-- Where one segment at most has a balance, apart from Credit and Held.
use Rattle.std.specs.Prelude.{ℕ, ◌+◌, ◌≤◌, ◌≡◌, nat_lt, if◌then◌else◌, Bool, List, [], ◌∷◌, drop, length, Option, Some, None, ℤ, pos, slice_index_or}
use Rattle.card_model.specs.Allocation.{allocated, placed}
use Rattle.card_model.specs.Entries.{at_least_zero}
use Rattle.card_segments.specs.Holdings.{holdings}
use Rattle.card_segments.specs.Parts.{AreParts}
use Rattle.card_segments.specs.declared.rank.Rank.{Rank}

-- a balance that a cent can be paid on
abbrev pub is_above_zero : ℤ → Bool
is_above_zero b = nat_lt 0 (at_least_zero b)

-- the segments from a number on that have one
abbrev pub holders_from : ℕ → List ℤ → List ℕ
holders_from id [] = []
holders_from id (b ∷ bs) = if is_above_zero b then id ∷ holders_from (id + 1) bs else holders_from (id + 1) bs

-- those of all segments but Credit and Held
abbrev pub holders : List ℤ → List ℕ
holders balances = holders_from 2 (drop 2 balances)

-- the only one, and Credit where there is none
abbrev pub sole : List ℕ → Option ℕ
sole [] = Some 0
sole (id ∷ []) = Some id
sole (id ∷ other ∷ ids) = None

-- the parts of so many cents, in whatever order the segments rank: of a payment with any minimum part, and of a merchant's credit
-- on any place
pub record AreOfSole (balances : List ℤ) (cents : ℕ) (parts : List (ℕ × ℕ)) : Type 0 where
  pub whole : AreParts balances cents parts
  pub payment : (ranks : List Rank) (minimum : ℕ) → length ranks ≡ length balances → minimum ≤ cents → parts ≡ allocated minimum cents (holdings [] balances ranks)
  pub credit : (ranks : List Rank) (place : List ℕ) → length ranks ≡ length balances → parts ≡ placed cents (holdings place balances ranks)
