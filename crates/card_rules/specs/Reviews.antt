-- A rate increase is reviewed every six months (12 CFR 1026.59(a), (c)): as a task with its day. Days are day numbers.
use Rattle.std.specs.Prelude.{ℕ, ◌+◌, ◌≡◌, ◌≤◌, ◌⊎◌, List, Option}
use Rattle.std.specs.List.{Contains}
use Rattle.card_events.specs.History.{CorrectedPost}
use Rattle.card_events.specs.declared.anchor.Anchor.{Anchor}
use Rattle.card_events.specs.declared.post.Category.{Category}
use Rattle.card_events.specs.declared.post.Finding.{Finding}
use Rattle.card_events.specs.declared.post.Post.TheVariants as post
use Rattle.card_model.specs.Deadlines.{open_tasks, task_of}
use Rattle.card_model.specs.declared.task.Task.{Task}
use Rattle.card_model.specs.declared.task.TaskKind.TheVariants as task
use Rattle.card_rules.specs.Months.{months_after}

-- ---- an increase
-- a notice whose rate takes effect on a day
pub record IsNoticeFrom (p : CorrectedPost) (day : ℕ) : Type 0 where
  pub given : ℕ
  pub category : Category
  pub rate : ℕ
  pub is : p.post ≡ post.Notice given category rate day

-- the post of a penalty rate that begins on a day, 45 days after the post was accepted
pub record IsPenaltyFrom (p : CorrectedPost) (day : ℕ) : Type 0 where
  pub is : p.post ≡ post.Penalty
  pub begins : day ≡ p.accepted + 45

-- by one of both a rate was raised on a day, which has come by today
pub record WasRaised (posts : List CorrectedPost) (today day : ℕ) : Type 0 where
  pub by : CorrectedPost
  pub accepted : Contains posts by
  pub raises : IsNoticeFrom by day ⊎ IsPenaltyFrom by day
  pub come : day ≤ today

-- ---- a review
pub record IsReviewOf (p : CorrectedPost) (day : ℕ) : Type 0 where
  pub finding : Finding
  pub is : p.post ≡ post.Review day finding

pub record WasReviewed (posts : List CorrectedPost) (day : ℕ) : Type 0 where
  pub by : CorrectedPost
  pub accepted : Contains posts by
  pub reviews : IsReviewOf by day

-- A review is an open task, due on the same day of the sixth month after a day. That day is one on which a rate was raised, the given one
-- or one before it; or the day of a review; and no review is of a later day
pub record IsToReview (tasks : List Task) (account : List ℕ) (posts : List CorrectedPost) (today day : ℕ) : Type 0 where
  pub from : ℕ
  pub waits : Contains tasks (task_of account task.Review 0 (months_after 6 from))
  pub begun : (WasRaised posts today from × (from ≤ day)) ⊎ WasReviewed posts from
  pub last : (p : CorrectedPost) (on : ℕ) → Contains posts p → IsReviewOf p on → on ≤ from

-- so it is for each increase that has taken effect
abbrev pub ReviewsComeDue : Type 0
ReviewsComeDue =
    (account : List ℕ) (a : Anchor) (holidays : List ℕ) (posts : List CorrectedPost) (credit : ℕ) (since : Option ℕ) (today day : ℕ) → WasRaised posts today day
    → IsToReview (open_tasks account a holidays posts credit since today) account posts today day
