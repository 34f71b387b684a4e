use Rattle.std.proofs.Common.{◌≡◌, map}
use Rattle.std.specs.List.{range_with_len}
use Rattle.card_book.specs.Marks.{accrued_at}
use Rattle.card_book.proofs.marks.accruals_at.Given as goal

abbrev pub invariant-loop-id : goal.invariant-loop-id
invariant-loop-id l = l.accruals.items ≡ map (accrued_at l.cycle l.list) (range_with_len 2 l.id)
