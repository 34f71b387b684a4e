use Rattle.std.proofs.Common.{sym, ap, ◌∙◌}
use Rattle.std.specs.Cmp.Lexicographic.{slice_cmp}
use Rattle.std.specs.Ordering.{nat_cmp}
use Rattle.card_disputes.proofs.TaskOrder.{same-day}
use Rattle.card_disputes.proofs.order.compare.Goals as goal

pub returns-in-Equal : goal.returns-in-Equal
returns-in-Equal c =
    same-day c.args.task.now c.args.other.now c.cmp-in-Equal.result (sym c.cmp.ensures ∙ c.in-Equal.is)
    (c.cmp-in-Equal.ensures ∙ ap (λ l. slice_cmp nat_cmp l c.bytes-in-Equal.result.now) c.bytes.ensures.value ∙ ap (slice_cmp nat_cmp c.args.task.now.account) c.bytes-in-Equal.ensures.value)
