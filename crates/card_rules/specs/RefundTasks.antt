-- A credit balance is refunded within seven business days of the request (12 CFR 1026.11(a)(2)): as a task with its day. Days are day
-- numbers, amounts cents.
use Rattle.std.specs.Prelude.{ℕ, ◌+◌, ◌-◌, ◌≡◌, ◌≢◌, ◌≤◌, ◌<◌, true, if◌then◌else◌, List, Option}
use Rattle.std.specs.List.{Contains, range_with_len, sum_by}
use Rattle.card_events.specs.Business.{is_business}
use Rattle.card_events.specs.History.{CorrectedPost}
use Rattle.card_events.specs.Kept.{AreHolidays}
use Rattle.card_events.specs.Range.{last_request_day}
use Rattle.card_events.specs.declared.anchor.Anchor.{Anchor}
use Rattle.card_events.specs.declared.post.Post.TheVariants as post
use Rattle.card_model.specs.Deadlines.{open_tasks, refund_by, task_of}
use Rattle.card_model.specs.declared.task.TaskKind.TheVariants as task

-- how many of so many days, from one on, are business days
abbrev pub business_days : List ℕ → ℕ → ℕ → ℕ
business_days holidays first count = sum_by (λ d. if is_business holidays d then 1 else 0) (range_with_len first count)

-- a day is the seventh business day after another
pub record IsSeventhBusinessDay (holidays : List ℕ) (day by : ℕ) : Type 0 where
  pub later : day < by
  pub business : is_business holidays by ≡ true
  pub seven : business_days holidays (day + 1) (by - day) ≡ 7

-- no post after the one with a number is a refund
abbrev pub NoneIsRefunded : List CorrectedPost → ℕ → Type 0
NoneIsRefunded posts n = (q : CorrectedPost) (cents : ℕ) → Contains posts q → n < q.number → q.post ≢ post.Refund cents

pub record RefundsAreTasks : Type 0 where
  -- a refund is due on the seventh business day behind its request
  pub seventh : (holidays : List ℕ) (day : ℕ) → AreHolidays 0 holidays → day ≤ last_request_day → IsSeventhBusinessDay holidays day (refund_by holidays day)
  -- the task is open, with that day, until a refund comes or the credit balance is gone
  pub task :
      (account : List ℕ) (a : Anchor) (holidays : List ℕ) (posts : List CorrectedPost) (credit : ℕ) (since : Option ℕ) (today : ℕ) (p : CorrectedPost) (day : ℕ)
      → Contains posts p → p.post ≡ post.AskRefund day → 0 < credit → NoneIsRefunded posts p.number
      → Contains (open_tasks account a holidays posts credit since today) (task_of account task.Refund p.number (refund_by holidays day))
