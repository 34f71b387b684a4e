-- How large the amounts of a statement and the sums over payments grow.
use Rattle.std.specs.Prelude.{ℕ}

-- no amount that a minimum payment is taken of is above it, in cents: a quadrillion dollars
abbrev pub statement_limit : ℕ
statement_limit = 100_000_000_000_000_000

-- no sum over the posts of an account is above it, in cents: that of 200,000 posts of 999,999,999,999 cents
abbrev pub payments_limit : ℕ
payments_limit = 199_999_999_999_800_000
