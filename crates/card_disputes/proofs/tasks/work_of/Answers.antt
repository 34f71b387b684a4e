use Rattle.std.proofs.Common.{w64, ◌≤◌, ◌++◌, subst, sym, ap, ◌∙◌}
use Rattle.std.proofs.lemmas.Int.{to_z-of_z}
use Rattle.std.specs.Prelude.{unsigned_abs}
use Rattle.std.specs.Option.{option_map, option_to_list}
use Rattle.card_events.specs.Range.{last_request_day}
use Rattle.card_events.specs.declared.anchor.Anchor.{Anchor}
use Rattle.card_disputes.proofs.NoticeLemmas.{opening-dated}
use Rattle.card_disputes.proofs.TaskLemmas.{all-kinds, open-is}
use Rattle.card_model.specs.Deadlines.{by_day, open_tasks, task_of}
use Rattle.card_model.specs.declared.task.TaskKind.TheVariants as task
use Rattle.card_disputes.proofs.tasks.work_of.Goals as goal

pub push_tasks-requires-clause-opened : goal.push_tasks-requires-clause-opened
push_tasks-requires-clause-opened c = subst (λ (a : Anchor). a.opened ≤ last_request_day) (sym c.requires.anchor) (opening-dated c.args.posts.now.history c.requires.dated)

pub push_tasks-requires-2-clause-opened : goal.push_tasks-requires-2-clause-opened
push_tasks-requires-2-clause-opened c = subst (λ (a : Anchor). a.opened ≤ last_request_day) (sym c.requires.anchor) (opening-dated c.args.posts.now.history c.requires.dated)

pub push_tasks-requires-3-clause-opened : goal.push_tasks-requires-3-clause-opened
push_tasks-requires-3-clause-opened c = subst (λ (a : Anchor). a.opened ≤ last_request_day) (sym c.requires.anchor) (opening-dated c.args.posts.now.history c.requires.dated)

pub push_tasks-requires-4-clause-opened : goal.push_tasks-requires-4-clause-opened
push_tasks-requires-4-clause-opened c = subst (λ (a : Anchor). a.opened ≤ last_request_day) (sym c.requires.anchor) (opening-dated c.args.posts.now.history c.requires.dated)

pub returns : goal.returns
returns c holidays stands =
    let name = c.args.name.now in
    c.in_ok-by_day.ensures.ok
    ∙ ap by_day
    (all-kinds _ _ _ _ _ _ _ _ _ _ _ _ _ c.new-tasks.ensures.items
    (c.in_ok-push_tasks.ensures holidays stands)
    (c.in_ok-push_tasks-2.ensures holidays stands)
    (c.in_ok-push_tasks-3.ensures holidays stands)
    (c.in_ok-push_task.ensures ∙ ap (λ o. c.push_tasks-3.new.tasks.items ++ option_to_list (option_map (task_of name task.Credit 0) o)) c.credit_due-refunded.ensures)
    (c.in_ok-push_task-2.ensures ∙ ap (λ o. c.push_task.new.tasks.items ++ option_to_list (option_map (task_of name task.Review 0) o)) (c.review_by-reviewed.ensures holidays stands))
    (c.in_ok-push_tasks-4.ensures holidays stands))
    ∙ open-is name c.args.anchor.now c.args.calendar.now c.args.posts.now.corrected c.cents_in-credit.result c.args.since c.args.today
    ∙ ap (λ n. open_tasks name c.args.anchor.now c.args.calendar.now c.args.posts.now.corrected n c.args.since c.args.today) (c.cents_in-credit.ensures ∙ ap unsigned_abs (to_z-of_z w64 c.args.credit c.ranges.credit))
