use Rattle.std.proofs.Common.{◌≡◌, false, take}
use Rattle.std.specs.List.{list_any}
use Rattle.card_fees.specs.Counting.{returns_until}
use Rattle.card_fees.proofs.returning.any_returns.Given as goal

abbrev pub invariant-loop-number : goal.invariant-loop-number
invariant-loop-number l = list_any (returns_until l.until l.posts.history l.posts.corrected l.payment) (take l.number-index l.waiting) ≡ false
