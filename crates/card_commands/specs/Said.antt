-- A line that is said, and what is said of damaged rows.
use Rattle.std.specs.Prelude.{◌⊎◌, ℕ, List, [], ◌∷◌, ◌++◌, Option, codes}
use Rattle.std.specs.Fmt.{decimal}
use Rattle.std.specs.Io.KnownBytes.{Appends}
use Rattle.card_desk.specs.Kept.{AreDamagedAt}
use Rattle.card_ports.specs.declared.row.Row.{Row}
use Rattle.card_ports.specs.Counts.{Rose}
use Rattle.card_ports.specs.Written.{TookFront}

-- what is said where row n is the first that is damaged
unfoldable pub damaged_line : ℕ → List ℕ
damaged_line n = codes "damaged " ++ decimal n ++ 10 ∷ []

-- the sink took the line, or a front of it where its faults rose
abbrev pub TookLine : Option (List ℕ) → Option (List ℕ) → ℕ → ℕ → List ℕ → Type 0
TookLine old new before now line = Appends old new line ⊎ (TookFront old new line × Rose before now)

-- row n is the first that is damaged, and P is so of what is said of it
pub record DamagedRows (rows : Option (List Row)) (P : List ℕ → Type 0) : Type 0 where
  pub number : ℕ
  pub damaged : AreDamagedAt rows number
  pub said : P (damaged_line number)
