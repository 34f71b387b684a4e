use Rattle.std.proofs.Common.{◌+◌, ◌-◌, ◌≤◌, length, take}
use Rattle.card_keys.specs.Buckets.{HasRoom, IsIndex}
use Rattle.card_keys.proofs.index.rebuilt.Given as goal

abbrev pub invariant-loop-at : goal.invariant-loop-at
invariant-loop-at l = (l.at ≤ length l.history) × IsIndex (take l.at l.history) l.index × HasRoom ((length l.history - l.at) + l.posts) l.index

abbrev pub decreases-loop-at : goal.decreases-loop-at
decreases-loop-at l = length l.history - l.at
