-- What the balances of a statement can come to, so that their repayment can be reckoned (12 CFR 1026.7(b)(12)). Amounts are cents,
-- the part is in basis points.
use Rattle.std.specs.Prelude.{ℕ, ◌≤◌, length, ℤ, pos, ◌≤ℤ◌}
use Rattle.card_model.specs.Cycles.{Amounts, amounts_sum}

-- the most segments beside Credit and Held
abbrev pub most_amounts : ℕ
most_amounts = 62

-- the most that is owed on them together: 10^15 cents on each
abbrev pub most_owed : ℕ
most_owed = 62_000_000_000_000_000

-- few balances and no larger ones, and the terms of the minimum payment within their ranges
pub record IsRepayable (closing : Amounts) (floor : ℤ) (pct : ℕ) : Type 0 where
  pub few : length closing ≤ most_amounts
  pub small : amounts_sum closing ≤ most_owed
  pub floor_low : pos 0 ≤ℤ floor
  pub floor_high : floor ≤ℤ pos 1_000_000
  pub part : pct ≤ 10_000
