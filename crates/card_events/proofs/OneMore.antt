-- A history with one more post.
use Rattle.std.proofs.Common.{◌≡◌, ℕ, zero, suc, ◌<◌, ◌≤◌, List, [], ◌∷◌, ◌++◌, length, refl, arith}
use Rattle.std.specs.Prelude.{slice_get}
use Rattle.card_events.specs.History.{at_number}
use Rattle.card_events.specs.declared.kept.Kept.{Kept}

-- with one more post
abbrev pub more : List Kept → Kept → List Kept
more h k = h ++ k ∷ []

place-more : (n : ℕ) (h : List Kept) (k : Kept) → n < length h → slice_get (more h k) n ≡ slice_get h n
place-more n [] k l = absurd (omega (arith, l))
place-more zero (q ∷ h) k l = refl
place-more (suc n) (q ∷ h) k l = place-more n h k (omega (arith, l))

pub number-more : (n : ℕ) (h : List Kept) (k : Kept) → n ≤ length h → at_number n (more h k) ≡ at_number n h
number-more zero h k l = refl
number-more (suc n) h k l = place-more n h k (omega (arith, l))
