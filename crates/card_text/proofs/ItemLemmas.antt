-- The items of records, one after the other.
use Rattle.std.proofs.Common.{◌≡◌, ℕ, ◌+◌, length, List, [], ◌∷◌, drop, slice_get, Option, Some, None, refl, sym, ap, arith}
use Rattle.card_text.specs.Import.{before, item_of_record, items_of}

-- a record is taken: what it says comes before the items of the others
pub taken : (row : ℕ) (rs : List (List (List ℕ))) (r : List (List ℕ)) → Some r ≡ slice_get rs 0 → items_of row rs ≡ before (item_of_record row r) (items_of (row + 1) (drop 1 rs))
unfolding items_of
taken row [] r is = cc is
taken row (first ∷ rs) r is = ap (λ (o : Option (List (List ℕ))). before (item_of_record row (or_empty o)) (items_of (row + 1) rs)) (sym is)
  where
    or_empty : Option (List (List ℕ)) → List (List ℕ)
    or_empty None = []
    or_empty (Some x) = x

-- no record is left
pub none_taken : (row : ℕ) (rs : List (List (List ℕ))) → ◌≡◌ {A = Option (List (List ℕ))} None (slice_get rs 0) → (rs ≡ []) × (items_of row rs ≡ [])
unfolding items_of
none_taken row [] is = (refl, refl)
none_taken row (r ∷ rs) is = cc is

pub no_items : (row : ℕ) → items_of row [] ≡ []
unfolding items_of
no_items row = refl

pub one_fewer : (rs : List (List (List ℕ))) (r : List (List ℕ)) → Some r ≡ slice_get rs 0 → length rs ≡ 1 + length (drop 1 rs)
one_fewer [] r is = cc is
one_fewer (first ∷ rs) r is = omega arith
