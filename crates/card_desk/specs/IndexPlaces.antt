-- Names and the numbers that they were given.
use Rattle.std.specs.Prelude.{◌≡◌, ℕ, if◌then◌else◌, List, [], ◌∷◌, Option, Some, None}
use Rattle.std.specs.Str.{bytes_eq}

-- the number of a name, where it has one
unfoldable pub place_of : List ℕ → List (List ℕ × ℕ) → Option ℕ
place_of name [] = None
place_of name (e ∷ es) = let later = place_of name es in if bytes_eq name e.0 then Some e.1 else later

-- this name has this number now, or none, and every other name has what it had
abbrev pub Places : List (List ℕ × ℕ) → List (List ℕ × ℕ) → List ℕ → Option ℕ → Type 0
Places old new name place = (q : List ℕ) → place_of q new ≡ (if bytes_eq q name then place else place_of q old)
