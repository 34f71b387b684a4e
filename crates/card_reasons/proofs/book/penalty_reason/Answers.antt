use Rattle.std.proofs.Common.{List, length, ap, sym, ◌∙◌}
use Rattle.card_events.specs.declared.kept.Kept.{Kept}
use Rattle.card_reasons.specs.Reasons.{full_reason}
use Rattle.card_reasons.proofs.ReasonLemmas.{penalty_late, penalty_not}
use Rattle.card_reasons.proofs.book.penalty_reason.Goals as goal

pub returns-then-late : goal.returns-then-late
returns-then-late c now same late = c.full_reason.ensures ∙ ap (λ (h : List Kept). full_reason (length h)) (sym same) ∙ penalty_late now (sym late ∙ c.if-late.true)

pub returns-else-late : goal.returns-else-late
returns-else-late c now same late = penalty_not now (sym late ∙ c.if-late.false)
