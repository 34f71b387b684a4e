-- A credit balance above one dollar is refunded after six months (12 CFR 1026.11(a)(3)): as a task with its day. Days are day numbers,
-- amounts cents.
use Rattle.std.specs.Prelude.{ℕ, ◌-◌, ◌≡◌, ◌≤◌, ◌<◌, ◌⊎◌, List}
use Rattle.std.specs.List.{Contains}
use Rattle.card_events.specs.History.{CorrectedPost}
use Rattle.card_events.specs.declared.anchor.Anchor.{Anchor}
use Rattle.card_model.specs.Deadlines.{credit_on, credit_since, open_tasks, task_of}
use Rattle.card_model.specs.declared.entry.Entry.{Entry}
use Rattle.card_model.specs.declared.task.TaskKind.TheVariants as task
use Rattle.card_rules.specs.Months.{months_after}

-- every day from one on ended with a credit balance, and the day before that one didn't, unless the account was opened on it
pub record HasStoodSince (entries : List Entry) (opened today since : ℕ) : Type 0 where
  pub low : opened ≤ since
  pub high : since ≤ today
  pub each : (day : ℕ) → since ≤ day → day ≤ today → 0 < credit_on entries day
  pub before : (since ≡ opened) ⊎ (credit_on entries (since - 1) ≡ 0)

-- its refund is an open task, due on the same day of the sixth month after the first of these days
pub record IsToRefund (account : List ℕ) (a : Anchor) (holidays : List ℕ) (posts : List CorrectedPost) (entries : List Entry) (credit today : ℕ) : Type 0 where
  pub since : ℕ
  pub stood : HasStoodSince entries a.opened today since
  pub waits : Contains (open_tasks account a holidays posts credit (credit_since entries a.opened today) today) (task_of account task.Credit 0 (months_after 6 since))

-- so it is with every credit balance above 100 cents, while days end with one
abbrev pub CreditBalancesAreTasks : Type 0
CreditBalancesAreTasks =
    (account : List ℕ) (a : Anchor) (holidays : List ℕ) (posts : List CorrectedPost) (entries : List Entry) (credit today : ℕ) → a.opened ≤ today
    → 0 < credit_on entries today → 100 < credit → IsToRefund account a holidays posts entries credit today
