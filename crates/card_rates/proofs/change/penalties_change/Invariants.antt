use Rattle.std.proofs.Common.{take}
use Rattle.std.specs.List.{list_any}
use Rattle.card_model.specs.Breaks.{breaks_penalty}
use Rattle.card_rates.specs.Next.{IsNext}
use Rattle.card_rates.proofs.change.penalties_change.Given as goal

abbrev pub invariant-loop-penalty : goal.invariant-loop-penalty
invariant-loop-penalty l = IsNext (λ day. list_any (breaks_penalty day) (take l.penalty-index l.penalties)) l.first l.fn.end l.next
