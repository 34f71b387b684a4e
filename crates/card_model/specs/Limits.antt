-- How large amounts grow.
use Rattle.std.specs.Prelude.{ℕ}

-- no balance and no sum of moves of an account is above it, in cents: ten trillion dollars
abbrev pub balance_limit : ℕ
balance_limit = 1_000_000_000_000_000
