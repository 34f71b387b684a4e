use Rattle.std.proofs.Common.{rules, ◌∙◌}
use Rattle.std.proofs.lemmas.Fn.{always_returns_same}
use Rattle.card_disputes.proofs.Sorting.{sorted-is}
use Rattle.card_disputes.proofs.TaskOrder.{by_day-is, earlier-order, is_earlier}
use Rattle.card_disputes.proofs.order.by_day.Goals as goal

pub returns-clause-ok : goal.returns-clause-ok
returns-clause-ok c =
    let compares = always_returns_same _ _ _ (λ a r f k. search rules) in
    sorted-is is_earlier earlier-order c.args.tasks.now.items c.sort_by.new.self.items (c.in_ok-sort_by.ensures.sorted is_earlier earlier-order compares) (c.sort_by.ensures.stable is_earlier earlier-order compares)
    ∙ by_day-is c.args.tasks.now.items
