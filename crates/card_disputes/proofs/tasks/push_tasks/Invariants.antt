use Rattle.std.proofs.Common.{◌≡◌, ℕ, List, ◌++◌, take}
use Rattle.card_disputes.specs.Dues.{due_by}
use Rattle.card_disputes.proofs.TaskLemmas.{tasks_from}
use Rattle.card_posts.specs.Posted.{StandsFor}
use Rattle.card_disputes.proofs.tasks.push_tasks.Given as goal

abbrev pub invariant-loop-i : goal.invariant-loop-i
invariant-loop-i l = (holidays : List ℕ) → StandsFor holidays l.basis.posts.now → l.tasks.items ≡ l.fn.tasks.items ++ tasks_from l.basis.name.now l.kind (due_by l.basis.anchor.now l.basis.calendar.now l.basis.credit l.basis.posts.now.corrected l.kind) 1 (take l.i l.basis.posts.now.history)
