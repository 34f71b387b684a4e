-- A rate that a review found too high is lowered within 45 days (12 CFR 1026.59(a)(2)(i)): as a task with its day. Days are day numbers.
use Rattle.std.specs.Prelude.{ℕ, ◌+◌, ◌≡◌, ◌≢◌, ◌<◌, List, Option}
use Rattle.std.specs.List.{Contains}
use Rattle.card_events.specs.History.{CorrectedPost}
use Rattle.card_events.specs.declared.anchor.Anchor.{Anchor}
use Rattle.card_events.specs.declared.post.Category.{Category}
use Rattle.card_events.specs.declared.post.Finding.TheVariants as finding
use Rattle.card_events.specs.declared.post.Post.TheVariants as post
use Rattle.card_model.specs.Deadlines.{open_tasks, task_of}
use Rattle.card_model.specs.declared.task.TaskKind.TheVariants as task

-- no post after the one with a number lowers a rate
abbrev pub NoneIsLowered : List CorrectedPost → ℕ → Type 0
NoneIsLowered posts n = (q : CorrectedPost) (day rate : ℕ) (c : Category) → Contains posts q → n < q.number → q.post ≢ post.Lower day c rate

-- until a rate is lowered after such a review, to lower one is an open task, by the 45th day after the review
abbrev pub ReductionsAreTasks : Type 0
ReductionsAreTasks =
    (account : List ℕ) (a : Anchor) (holidays : List ℕ) (posts : List CorrectedPost) (credit : ℕ) (since : Option ℕ) (today : ℕ) (p : CorrectedPost) (day : ℕ)
    → Contains posts p → p.post ≡ post.Review day finding.Reduce → NoneIsLowered posts p.number
    → Contains (open_tasks account a holidays posts credit since today) (task_of account task.Lower p.number (day + 45))
