-- How many posts there may be.
use Rattle.std.specs.Prelude.{ℕ}

-- the most posts of an account, its opening among them
abbrev pub post_limit : ℕ
post_limit = 200_000
