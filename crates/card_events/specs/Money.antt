-- Rates, interest and the text of money. Numbers here have no greatest value.
use Rattle.std.specs.Prelude.{ℕ, ◌+◌, ◌*◌, ◌/◌, ◌%◌, max, List, [], ◌∷◌, ◌++◌, ℤ, pos, negsuc, unsigned_abs}
use Rattle.std.specs.Fmt.{decimal}

-- the greatest yearly rate, in basis points
abbrev pub rate_limit : ℕ
rate_limit = 9999

-- the daily rate, in billionths, of a yearly rate in basis points: a 365th, rounded down, in leap years too
unfoldable pub daily : ℕ → ℕ
daily bp = bp * 100_000 / 365

-- the cents of a sum of balance times daily rate, in billionths of a cent, rounded half up
unfoldable pub interest : ℕ → ℕ
interest sum = (sum + 500_000_000) / 1_000_000_000

-- the part of a balance that a percentage in basis points gives, rounded down
unfoldable pub portion : ℕ → ℕ → ℕ
portion balance pct = balance * pct / 10_000

-- What a minimum payment asks of a balance and the charges on it, before what is past due: the floor, or the part that the percentage
-- gives with the charges, where that is more
abbrev pub floor_or_portion : ℕ → ℕ → ℕ → ℕ → ℕ
floor_or_portion balance floor pct charges = max floor (portion balance pct + charges)

-- a minus for a number below 0
abbrev pub sign_text : ℤ → List ℕ
sign_text (pos n) = []
sign_text (negsuc n) = 45 ∷ []

-- `-12.05`: cents as an optional minus, the units, a point and two digits
unfoldable pub money_text : ℤ → List ℕ
money_text cents =
    let size = unsigned_abs cents in
    sign_text cents ++ decimal (size / 100) ++ 46 ∷ decimal (size % 100 / 10) ++ decimal (size % 10)
