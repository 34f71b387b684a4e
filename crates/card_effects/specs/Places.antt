-- The segments of a place, as they are kept.
use Rattle.std.specs.Prelude.{ℕ, ◌<◌, ◌≤◌, map, length, List, ℤ}
use Rattle.std.specs.List.{filter}
use Rattle.card_events.specs.declared.post.Place.{Place}
use Rattle.card_model.specs.Segments.{SegmentTerms, is_of_place}

-- the numbers of those that are of a place
abbrev pub numbers_of : Place → List SegmentTerms → List ℕ
numbers_of p gs = map (λ g. g.id) (filter (is_of_place p) gs)

-- the number of a segment that is kept, other than Credit and Held
pub record IsBilled (id : ℕ) (balances : List ℤ) : Type 0 where
  pub low : 2 ≤ id
  pub known : id < length balances
