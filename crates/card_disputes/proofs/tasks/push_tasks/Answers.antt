use Rattle.std.proofs.Common.{◌+◌, ◌<◌, ◌≤◌, ◌++◌, length, take, List, sym, ap, ◌∙◌, arith}
use Rattle.std.proofs.lemmas.List.{append_assoc, append-nil, take_all}
use Rattle.std.specs.Option.{option_map, option_to_list}
use Rattle.card_disputes.proofs.TaskLemmas.{none-from, task-step, tasks-are, tasks_from}
use Rattle.card_disputes.specs.Dues.{due_at, due_by}
use Rattle.card_events.specs.History.{CorrectedPost, anchor_of, at_number}
use Rattle.card_model.specs.Deadlines.{task_of, tasks_of}
use Rattle.card_model.specs.declared.task.Task.{Task}
use Rattle.card_disputes.proofs.tasks.push_tasks.Goals as goal

pub loop-i-init : goal.loop-i-init
loop-i-init c holidays stands =
    sym (ap (λ l. c.args.tasks.now.items ++ l) (none-from c.args.basis.now.name.now c.args.kind (due_by c.args.basis.now.anchor.now c.args.basis.now.calendar.now c.args.basis.now.credit c.args.basis.now.posts.now.corrected c.args.kind)) ∙ append-nil c.args.tasks.now.items)

pub loop-i-preserved : goal.loop-i-preserved
loop-i-preserved c holidays stands =
    let low : c.loop-i.i < length c.args.basis.now.posts.now.history = omega (arith, c.loop-i-test.true, c.len-i-end.ensures.value) in
    let due = due_by c.args.basis.now.anchor.now c.args.basis.now.calendar.now c.args.basis.now.credit c.args.basis.now.posts.now.corrected c.args.kind in
    let before : List Task = tasks_from c.args.basis.now.name.now c.args.kind due 1 (take c.loop-i.i c.args.basis.now.posts.now.history) in
    let place = at_number (c.loop-i.i + 1) c.args.basis.now.posts.now.history in
    let added : List Task = option_to_list (option_map (task_of c.args.basis.now.name.now c.args.kind (c.loop-i.i + 1)) (due_at c.args.basis.now.anchor.now c.args.basis.now.calendar.now c.args.basis.now.credit c.args.basis.now.posts.now.corrected c.args.kind (c.loop-i.i + 1) place)) in
    c.in_ok-push_task.ensures
    ∙ ap (λ o. c.loop-i.tasks.items ++ option_to_list (option_map (task_of c.args.basis.now.name.now c.args.kind (c.loop-i.i + 1)) o)) (c.due_at-by.ensures holidays stands)
    ∙ ap (λ (l : List Task). l ++ added) (c.loop-i.invariant holidays stands)
    ∙ append_assoc c.args.tasks.now.items before added
    ∙ ap (λ l. c.args.tasks.now.items ++ l) (task-step c.args.basis.now.name.now c.args.kind c.args.basis.now.anchor.now c.args.basis.now.calendar.now c.args.basis.now.credit c.args.basis.now.posts.now.corrected c.loop-i.i c.args.basis.now.posts.now.history low)

pub returns : goal.returns
returns c holidays stands =
    let history = c.args.basis.now.posts.now.history in
    let due = due_by c.args.basis.now.anchor.now c.args.basis.now.calendar.now c.args.basis.now.credit c.args.basis.now.posts.now.corrected c.args.kind in
    let past : length history ≤ c.loop-i.i = omega (arith, c.loop-i-test.false, c.len-i-end.ensures.value) in
    c.loop-i.invariant holidays stands
    ∙ ap (λ l. c.args.tasks.now.items ++ l)
    (ap (tasks_from c.args.basis.now.name.now c.args.kind due 1) (take_all c.loop-i.i history past)
    ∙ tasks-are c.args.basis.now.name.now c.args.kind due (anchor_of history) holidays history
    ∙ ap (λ (l : List CorrectedPost). tasks_of c.args.basis.now.name.now c.args.kind due l) (sym stands))
