-- How many of a list pass a test.
use Rattle.std.proofs.Common.{◌≤◌, Bool, true, false, cond, List, [], ◌∷◌, length, suc, arith}
use Rattle.std.specs.List.{filter}

-- no more than there are
pub few-pass : {X : Type 0} (p : X → Bool) (xs : List X) → length (filter p xs) ≤ length xs
few-pass p [] = omega arith
few-pass p (x ∷ xs) = by (p x) (few-pass p xs)
  where
    by : (t : Bool) → length (filter p xs) ≤ length xs → length (cond t (x ∷ filter p xs) (filter p xs)) ≤ suc (length xs)
    by true l = omega (arith, l)
    by false l = omega (arith, l)
