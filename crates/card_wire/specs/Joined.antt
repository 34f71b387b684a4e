-- The fields of a line, each behind a space.
use Rattle.std.specs.Prelude.{ℕ, List, [], ◌∷◌, ◌++◌}

unfoldable pub joined : List (List ℕ) → List ℕ
joined [] = []
joined (text ∷ texts) = 32 ∷ text ++ joined texts
