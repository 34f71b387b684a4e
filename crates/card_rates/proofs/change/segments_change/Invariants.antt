use Rattle.std.proofs.Common.{take}
use Rattle.std.specs.List.{list_any}
use Rattle.card_model.specs.Breaks.{breaks_segment}
use Rattle.card_rates.specs.Next.{IsNext}
use Rattle.card_rates.proofs.change.segments_change.Given as goal

abbrev pub invariant-loop-g : goal.invariant-loop-g
invariant-loop-g l = IsNext (λ day. list_any (breaks_segment day) (take l.g-index l.segments)) l.first l.fn.end l.next
