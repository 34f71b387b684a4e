-- The open tasks of accounts today.
use Rattle.std.specs.Prelude.{ℕ, List}
use Rattle.std.specs.List.{flat_map}
use Rattle.card_account.specs.Accounts.{OpenAccount}
use Rattle.card_replay.specs.Replays.{present_of}
use Rattle.card_events.specs.SharedRows.{SharedRows}
use Rattle.card_model.specs.Refusals.{book_today}
use Rattle.card_model.specs.Work.{in_work_order, tasks_in}
use Rattle.card_model.specs.declared.task.Task.{Task}

-- those of one account, by its book of today
abbrev pub tasks_of : ℕ → SharedRows → OpenAccount → List Task
tasks_of today shared a =
    let now = present_of today shared a.named.lists in tasks_in a.named.name now (book_today now)

-- those of all these accounts, by day and account
abbrev pub work_of : ℕ → SharedRows → List OpenAccount → List Task
work_of today shared accounts = in_work_order (flat_map (tasks_of today shared) accounts)
