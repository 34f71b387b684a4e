use Rattle.std.proofs.Common.{ℕ, ◌≤◌}
use Rattle.card_rates.specs.SlotLaws.{IsCut}
use Rattle.card_daily.proofs.place.place_from.Given as goal

abbrev pub invariant-loop-place : goal.invariant-loop-place
invariant-loop-place l = (end : ℕ) → IsCut l.slots l.day end → l.near ≤ end → l.place ≤ end
