-- The open tasks as text (12 CFR 1026.11(a), .13(c), .59), a line each.
use Rattle.std.specs.Prelude.{List, [], ◌∷◌, ◌++◌, ℕ, codes}
use Rattle.std.specs.Fmt.{decimal}
use Rattle.std.specs.List.{flat_map}
use Rattle.card_events.specs.Civil.{day_text}
use Rattle.card_model.specs.declared.task.Task.{Task}
use Rattle.card_model.specs.declared.task.TaskKind.{TaskKind}
use Rattle.card_model.specs.declared.task.TaskKind.TheVariants as kind

-- what has to be done, in a word
abbrev pub task_word : TaskKind → List ℕ
task_word kind.Ack = codes "ACK"
task_word kind.Resolve = codes "RESOLVE"
task_word kind.Refund = codes "REFUND"
task_word kind.Credit = codes "CREDIT"
task_word kind.Review = codes "REVIEW"
task_word kind.Lower = codes "LOWER"

-- `BY ACCOUNT KIND POST`, with its line feed
unfoldable pub task_line : Task → List ℕ
task_line t = day_text t.by ++ 32 ∷ [] ++ t.account ++ 32 ∷ [] ++ task_word t.kind ++ 32 ∷ [] ++ decimal t.post ++ 10 ∷ []

-- a line a task, in their order
unfoldable pub tasks_text : List Task → List ℕ
tasks_text tasks = flat_map task_line tasks
