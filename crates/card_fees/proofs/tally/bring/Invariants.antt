use Rattle.std.proofs.Common.{◌≡◌, ◌≤◌, ◌*◌, take}
use Rattle.std.specs.List.{sum_by}
use Rattle.card_fees.specs.Tallied.{credited_since, paid_since, return_read}
use Rattle.card_fees.proofs.tally.bring.Given as goal

abbrev pub invariant-loop-slot : goal.invariant-loop-slot
invariant-loop-slot l =
    (l.brought.paid ≡ sum_by (paid_since l.until l.posts.history l.posts.corrected l.from) (take l.slot-index l.slots))
    × (l.brought.credited ≡ sum_by (credited_since l.until l.posts.history l.from) (take l.slot-index l.slots))
    × (l.brought.returns ≡ sum_by (return_read l.until l.posts.history) (take l.slot-index l.slots))
    × (l.brought.paid ≤ l.slot-index * 999_999_999_999)
    × (l.brought.credited ≤ l.slot-index * 999_999_999_999)
    × (l.brought.returns ≤ l.slot-index)
    × (l.brought.read ≡ l.slot-index)
