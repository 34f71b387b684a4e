use Rattle.std.proofs.Common.{◌≡◌, take}
use Rattle.card_book.proofs.folded.copy_segments.Given as goal

abbrev pub invariant-loop-id : goal.invariant-loop-id
invariant-loop-id l = l.copy.items ≡ take l.id l.segments.segments
