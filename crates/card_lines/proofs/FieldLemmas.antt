-- The first field of a line.
use Rattle.std.proofs.Common.{◌≡◌, ℕ, suc, ◌+◌, true, false, not, cond, eqb, List, [], ◌∷◌, take, drop, Err, refl, ap, arith}
use Rattle.std.specs.List.{onto_first, position_or_len}
use Rattle.card_lines.specs.Fields.{end_at}
use Rattle.card_lines.specs.Fields.{fields_of, fields_left}

one_more : (n : ℕ) → 1 + n ≡ suc n
one_more n = omega arith

-- up to the first space, and what is behind it
pub first_field : (bs : List ℕ) → fields_of bs ≡ take (position_or_len (λ b. eqb b 32) bs) bs ∷ fields_left (drop (position_or_len (λ b. eqb b 32) bs) bs)
first_field [] = refl
first_field (b ∷ bs) = elim (eqb b 32) as (λ v. cond v ([] ∷ fields_of bs) (onto_first b (fields_of bs)) ≡ take (cond (not v) (1 + position_or_len (λ b. eqb b 32) bs) 0) (b ∷ bs) ∷ fields_left (drop (cond (not v) (1 + position_or_len (λ b. eqb b 32) bs) 0) (b ∷ bs))) [
  | true ↦ refl
  | false ↦ rw (one_more (position_or_len (λ b. eqb b 32) bs)) (ap (onto_first b) (first_field bs))
]

-- behind a space there is a field
pub not_at_end : (n : ℕ) (bs : List ℕ) → end_at n (fields_of bs) ≡ Err n
not_at_end n bs = rw (first_field bs) refl
