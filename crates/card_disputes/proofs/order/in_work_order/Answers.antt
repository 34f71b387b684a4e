use Rattle.std.proofs.Common.{rules, ◌∙◌}
use Rattle.std.proofs.lemmas.Fn.{always_returns_same}
use Rattle.card_disputes.proofs.Sorting.{sorted-is}
use Rattle.card_disputes.proofs.TaskOrder.{in_work_order-is, work-order}
use Rattle.card_model.specs.Work.{is_task_before}
use Rattle.card_disputes.proofs.order.in_work_order.Goals as goal

pub returns-clause-ok : goal.returns-clause-ok
returns-clause-ok c =
    let compares = always_returns_same _ _ _ (λ a r f k. search rules) in
    sorted-is is_task_before work-order c.args.tasks.now.items c.sort_by.new.self.items (c.in_ok-sort_by.ensures.sorted is_task_before work-order compares) (c.sort_by.ensures.stable is_task_before work-order compares)
    ∙ in_work_order-is c.args.tasks.now.items
