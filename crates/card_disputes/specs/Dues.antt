-- The days by which tasks are due, by kind.
use Rattle.std.specs.Prelude.{◌≡◌, ℕ, List, ◌++◌, Option, Some, None}
use Rattle.card_events.specs.declared.anchor.Anchor.{Anchor}
use Rattle.card_events.specs.History.{CorrectedPost}
use Rattle.card_events.specs.declared.kept.Kept.{Kept}
use Rattle.card_events.specs.declared.post.Post.{Post}
use Rattle.card_model.specs.Deadlines.{ack_due, lower_due, refund_due, resolve_due, tasks_of}
use Rattle.card_model.specs.declared.task.Task.{Task}
use Rattle.card_model.specs.declared.task.TaskKind.{TaskKind}
use Rattle.card_model.specs.declared.task.TaskKind.TheVariants as task
use Rattle.card_posts.specs.Posted.{Posted, StandsFor}

-- the last day of the task of a kind that a post makes. No post makes those of credit balances and reviews
abbrev pub due_by : Anchor → List ℕ → ℕ → List CorrectedPost → TaskKind → ℕ → Post → Option ℕ
due_by a holidays credit posts task.Ack n p = ack_due posts n p
due_by a holidays credit posts task.Resolve n p = resolve_due a posts n p
due_by a holidays credit posts task.Refund n p = refund_due holidays credit posts n p
due_by a holidays credit posts task.Lower n p = lower_due posts n p
due_by a holidays credit posts task.Credit n p = None
due_by a holidays credit posts task.Review n p = None

-- the same of the post there
abbrev pub due_at : Anchor → List ℕ → ℕ → List CorrectedPost → TaskKind → ℕ → Option Kept → Option ℕ
due_at a holidays credit posts kind n None = None
due_at a holidays credit posts kind n (Some k) = due_by a holidays credit posts kind n k.post

-- under the holidays of the corrected list, a list of tasks gets those of a kind that the posts make
abbrev pub AddsTasks : List ℕ → Anchor → List ℕ → ℕ → Posted → TaskKind → List Task → List Task → Type 0
AddsTasks name a calendar credit posts kind tasks more =
    (holidays : List ℕ) → StandsFor holidays posts → more ≡ tasks ++ tasks_of name kind (due_by a calendar credit posts.corrected kind) posts.corrected
