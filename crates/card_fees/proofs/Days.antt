-- Closings and due dates.
use Rattle.std.proofs.Common.{◌≡◌, ℕ, zero, suc, ◌+◌, ◌-◌, ◌<◌, ◌≤◌, eqb, arith}
use Rattle.card_events.specs.Billing.{closing, due, due_after, due_day_of_month}
use Rattle.card_events.specs.Civil.{day_of_month}
use Rattle.card_events.specs.declared.anchor.Anchor.{Anchor}
use Rattle.card_events.proofs.Cycles.{closing_grows}
use Rattle.card_events.proofs.Months.{first_day-from}

pub due-later : (a : Anchor) (k : ℕ) → closing a k < due a k
unfolding due_after
due-later a k = let e = first_day-from (λ d. eqb (day_of_month d) (due_day_of_month a.close_day)) 31 (closing a k + 1) in omega (arith, e)

pub closing-later : (a : Anchor) (k : ℕ) → 1 ≤ k → closing a (k - 1) < closing a k
closing-later a zero l = absurd (omega (arith, l))
closing-later a (suc k) l = let g = closing_grows a k in let e : suc k - 1 ≡ k = omega arith in rw e (omega (arith, g))

pub closing-from : (a : Anchor) (k : ℕ) → k ≤ closing a k
closing-from a zero = omega arith
closing-from a (suc k) = let g = closing_grows a k in let r = closing-from a k in omega (arith, g, r)

pub opened-before : (a : Anchor) (k : ℕ) → a.opened ≤ closing a k + 1
unfolding closing
opened-before a zero = omega arith
opened-before a (suc k) = let g = closing_grows a k in let r = opened-before a k in omega (arith, g, r)
