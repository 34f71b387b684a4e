use Rattle.std.proofs.Common.{◌≡◌, ◌≤◌, ◌*◌, take}
use Rattle.std.specs.List.{sum_by}
use Rattle.card_fees.specs.Counting.{read_counts}
use Rattle.card_fees.proofs.counting.sum.Given as goal

abbrev pub invariant-loop-slot : goal.invariant-loop-slot
invariant-loop-slot l = (l.total ≡ sum_by (read_counts l.until l.posts.history l.posts.corrected) (take l.slot-index l.slots)) × (l.total ≤ l.slot-index * 999_999_999_999)
