-- A notice of a billing error is acknowledged within 30 days, and resolved within two complete billing cycles and 90 days (12 CFR
-- 1026.13(c)): as tasks with their days. Days are day numbers.
use Rattle.std.specs.Prelude.{ℕ, ◌+◌, ◌-◌, ◌≡◌, ◌≢◌, ◌≤◌, ◌<◌, min, List, Option}
use Rattle.std.specs.List.{Contains}
use Rattle.card_events.specs.Billing.{closing}
use Rattle.card_events.specs.History.{CorrectedPost}
use Rattle.card_events.specs.Range.{last_calendar_day}
use Rattle.card_events.specs.declared.anchor.Anchor.{Anchor}
use Rattle.card_events.specs.declared.post.Post.TheVariants as post
use Rattle.card_model.specs.CycleDays.{IsOpening}
use Rattle.card_model.specs.Deadlines.{open_tasks, task_of}
use Rattle.card_model.specs.declared.task.TaskKind.TheVariants as task

-- no post resolves the dispute with a number
abbrev pub IsUnresolved : List CorrectedPost → ℕ → Type 0
IsUnresolved posts n = (p : CorrectedPost) (day cents : ℕ) → Contains posts p → p.post ≢ post.Resolve day n cents

-- nor does any acknowledge it
pub record IsUnanswered (posts : List CorrectedPost) (n : ℕ) : Type 0 where
  pub unresolved : IsUnresolved posts n
  pub unacknowledged : (p : CorrectedPost) (day : ℕ) → Contains posts p → p.post ≢ post.Ack day n

-- a day lies in the k-th cycle: after the closing before, and by its own
pub record IsInCycle (a : Anchor) (k day : ℕ) : Type 0 where
  pub numbered : 1 ≤ k
  pub opened : a.opened ≤ day
  pub after : closing a (k - 1) < day
  pub by : day ≤ closing a k

pub record DisputesAreTasks : Type 0 where
  -- until it is answered, to acknowledge it is an open task, by the 30th day after it
  pub acknowledge :
      (account : List ℕ) (a : Anchor) (holidays : List ℕ) (posts : List CorrectedPost) (credit : ℕ) (since : Option ℕ) (today : ℕ) (p : CorrectedPost) (day target claim : ℕ)
      → Contains posts p → p.post ≡ post.Dispute day target claim → IsUnanswered posts p.number
      → Contains (open_tasks account a holidays posts credit since today) (task_of account task.Ack p.number (day + 30))
  -- until it is resolved, to resolve it is one, by the closing of the second cycle after the one in which it came, and by the 90th day
  -- after it
  pub resolve :
      (account : List ℕ) (a : Anchor) (holidays : List ℕ) (posts : List CorrectedPost) (credit : ℕ) (since : Option ℕ) (today : ℕ) (p : CorrectedPost) (day target claim k : ℕ)
      → IsOpening a → day ≤ last_calendar_day → IsInCycle a k day
      → Contains posts p → p.post ≡ post.Dispute day target claim → IsUnresolved posts p.number
      → Contains (open_tasks account a holidays posts credit since today) (task_of account task.Resolve p.number (min (closing a (k + 2)) (day + 90)))
