use Rattle.std.proofs.Common.{ℕ, ◌+◌, ◌≤◌}
use Rattle.card_rates.specs.SlotLaws.{IsCut}
use Rattle.card_daily.proofs.posts.end_of.Given as goal

abbrev pub invariant-loop-place : goal.invariant-loop-place
invariant-loop-place l = (end : ℕ) → IsCut l.slots (l.day + 1) end → l.first ≤ end → l.place ≤ end
