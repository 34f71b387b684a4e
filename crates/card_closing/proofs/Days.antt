-- Sums over the days of a cycle.
use Rattle.std.proofs.Common.{◌≡◌, ℕ, zero, suc, ◌+◌, ◌<◌, ◌≤◌, List, [], ◌∷◌, map, refl, arith}
use Rattle.std.specs.List.{range_with_len, sum_by}
use Rattle.std.proofs.lemmas.List.Sums.{sum_by-cons}

-- two sums over the same days
pub same_sums : (f h : ℕ → ℕ) (from n : ℕ) → ((x : ℕ) → from ≤ x → x < from + n → f x ≡ h x) → sum_by f (range_with_len from n) ≡ sum_by h (range_with_len from n)
same_sums f h from zero e = refl
same_sums f h from (suc n) e =
    let rest = same_sums f h (from + 1) n (λ x l m. e x (omega arith) (omega arith)) in
    let here = e from (omega arith) (omega arith) in
    rw (sum_by-cons f from (range_with_len (from + 1) n), sum_by-cons h from (range_with_len (from + 1) n), rest, here) refl

-- a sum over a mapped list
pub sum_by-map : {X Y : Type 0} (f : X → Y) (h : Y → ℕ) (xs : List X) → sum_by h (map f xs) ≡ sum_by (λ x. h (f x)) xs
sum_by-map f h [] = refl
sum_by-map f h (x ∷ xs) = rw (sum_by-cons h (f x) (map f xs), sum_by-cons (λ x. h (f x)) x xs, sum_by-map f h xs) refl

-- a sum of nothing
pub sum_of_none : {X : Type 0} (xs : List X) → sum_by (λ (x : X). 0) xs ≡ 0
sum_of_none [] = refl
sum_of_none (x ∷ xs) = omega (arith, sum_by-cons (λ x. 0) x xs, sum_of_none xs)
