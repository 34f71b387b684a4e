-- The first space among some bytes, by the mask of their comparison with a space.
use Rattle.std.proofs.Common.{◌≡◌, ℕ, ◌≤◌, ◌%◌, ◌^◌, ◌-◌, eqb, not, cond, List, map, length, replicate, sym, ◌∙◌, arith}
use Rattle.std.specs.List.{prefix_len}
use Rattle.std.proofs.lemmas.Simd.{bitmask_splat, leading_from_mask_l, trailing_mask_l}
use lib.Count.{count_trailing_zeros}
use lib.Lanes.{mask_l, top, zip2}
use mir.Syntax.{w8}
use mir.Val.{bits, hbits}

-- the mask of n bytes, compared with a space
abbrev pub spaces : List ℕ → ℕ → ℕ
spaces xs n = mask_l (map (top (hbits w8)) (zip2 (λ a b. cond (eqb a b) (2 ^ bits w8 - 1) 0) xs (replicate n 32))) % 2 ^ 64

is_mask : (xs : List ℕ) (n : ℕ) → length xs ≡ n → n ≤ 64 → spaces xs n ≡ mask_l (map (λ x. eqb x 32) xs)
is_mask xs n long few = bitmask_splat w8 eqb xs n 32 long few

pub none_of : (xs : List ℕ) (n : ℕ) → length xs ≡ n → n ≤ 64 → spaces xs n ≡ 0 → n ≡ prefix_len (λ b. not (eqb b 32)) xs
none_of xs n long few none = sym (leading_from_mask_l (λ x. eqb x 32) xs (sym (is_mask xs n long few) ∙ none) ∙ long)

some_of_mask : (xs : List ℕ) (mask : ℕ) → length xs ≤ 64 → mask ≡ mask_l (map (λ x. eqb x 32) xs) → (mask ≡ 0 → ⊥) → count_trailing_zeros 64 mask ≡ prefix_len (λ b. not (eqb b 32)) xs
some_of_mask xs mask few is some = rw is (trailing_mask_l (λ x. eqb x 32) 64 xs few (omega (arith, is, some)))

pub first_of : (xs : List ℕ) (n : ℕ) → length xs ≡ n → n ≤ 64 → (spaces xs n ≡ 0 → ⊥) → count_trailing_zeros 64 (spaces xs n) ≡ prefix_len (λ b. not (eqb b 32)) xs
first_of xs n long few some = some_of_mask xs (spaces xs n) (omega arith) (is_mask xs n long few) some
