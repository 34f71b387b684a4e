-- Closings of cycles with great numbers.
use Rattle.std.proofs.Common.{ℕ, zero, suc, ◌≤◌, arith}
use Rattle.card_events.specs.Billing.{closing}
use Rattle.card_events.specs.declared.anchor.Anchor.{Anchor}
use Rattle.card_events.proofs.Cycles.{closing_grows}

-- a closing is no smaller than its number
pub grown : (a : Anchor) (k : ℕ) → k ≤ closing a k
grown a zero = omega arith
grown a (suc k) = omega (arith, closing_grows a k, grown a k)
