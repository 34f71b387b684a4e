-- Worked values of deadlines and open tasks (12 CFR 1026.11(a), .13(b)(1), (c), .59).
use Rattle.std.specs.Prelude.{ℕ, ◌≡◌, List, [], ◌∷◌, ◌++◌, None, Option, Some}
use Rattle.card_events.specs.Civil.{day_at}
use Rattle.card_events.specs.declared.anchor.Anchor.{Anchor}
use Rattle.card_events.specs.History.{anchor_of, corrected}
use Rattle.card_events.specs.SharedRows.{shared_rows}
use Rattle.card_events.specs.declared.post.Category.TheVariants as category
use Rattle.card_events.specs.declared.post.Finding.TheVariants.{Keep, Reduce}
use Rattle.card_events.specs.declared.post.Place.TheVariants as place
use Rattle.card_events.specs.declared.post.Post.TheVariants as post
use Rattle.card_events.specs.declared.request.Request.{Request}
use Rattle.card_events.specs.declared.request.Request.TheVariants as request
use Rattle.card_model.specs.Deadlines.{ack_by, last_notice_day, lower_by, refund_by, resolve_by}
use Rattle.card_model.specs.Machine.{State, lists_of, run}
use Rattle.card_model.specs.Refusals.{Lists}
use Rattle.card_model.specs.Work.{work}
use Rattle.card_model.specs.declared.task.Task.{Task}
use Rattle.card_model.specs.declared.task.TaskKind.{TaskKind}
use Rattle.card_model.specs.declared.task.TaskKind.TheVariants as task
use Rattle.card_examples.specs.Accounts.{charge_jan10, fee_row, name, open_a, pay_online, roll, to_a}

-- the open tasks today
abbrev pub tasks_after : List Request → List Task
tasks_after requests = work (run requests)

-- a task of the account
abbrev pub task_of : ℕ → TaskKind → ℕ → Task
task_of by kind post = record { by = by; account = name; kind = kind; post = post }

-- a task of account `b`
abbrev pub task_of_b : ℕ → TaskKind → ℕ → Task
task_of_b by kind post = record { by = by; account = 98 ∷ []; kind = kind; post = post }

-- an account whose cycles close on each 15th, from 2024-01-16 on
abbrev pub of_15th : Anchor
of_15th = record { opened = day_at 2024 1 16; close_day = 15 }

-- an account that is opened on a 16th of January, and charged; its statement is issued on 2024-02-16
abbrev pub opened_jan16 : List ℕ → List Request
opened_jan16 account =
    request.Post account (1 ∷ []) (post.Open (day_at 2024 1 16) (record { close = 15; purchase = 1999; cash = 2499; transfer = 2199; penalty = 2999; floor = 2500; pct = 100 }))
    ∷ request.Post account (2 ∷ []) (post.Charge (day_at 2024 2 1) place.Purchase 5000) ∷ request.Post account (3 ∷ []) (post.Bill 1) ∷ []

-- a dispute of 2024-04-16
abbrev pub dispute_of : List ℕ → Request
dispute_of account = request.Post account (4 ∷ []) (post.Dispute (day_at 2024 4 16) 2 5000)

-- on this account
abbrev pub disputed : List Request
disputed = roll 2024 2 16 ∷ opened_jan16 name ++ roll 2024 4 17 ∷ dispute_of name ∷ []

-- the same on account `b`, which was opened before it
abbrev pub two_disputed : List Request
two_disputed = roll 2024 2 16 ∷ opened_jan16 (98 ∷ []) ++ opened_jan16 name ++ roll 2024 4 17 ∷ dispute_of (98 ∷ []) ∷ dispute_of name ∷ []

-- a charge that the statement of 2024-02-06 shows, and one of the same cycle that came in after it was issued
abbrev pub charged_late : List Request
charged_late =
    fee_row 3000 4100 ∷ roll 2024 1 10 ∷ open_a 2500 ∷ charge_jan10 2 place.Purchase 100 ∷ roll 2024 2 6 ∷ to_a 3 (post.Bill 1)
    ∷ to_a 4 (post.Charge (day_at 2024 1 20) place.Purchase 200) ∷ roll 2024 3 6 ∷ to_a 5 (post.Bill 2) ∷ []

-- the first of them is moved into the second cycle
abbrev pub moved : List Request
moved = charged_late ++ to_a 6 (post.Amend 2 (day_at 2024 2 10) 100) ∷ []

-- the last day for a dispute of a charge, of an account's lists
abbrev pub notice_end_with : State → Option Lists → ℕ → Option ℕ
notice_end_with s None charge = None
notice_end_with s (Some l) charge =
    let a = anchor_of l.posts in
    last_notice_day a (corrected a (shared_rows s.shared).holidays l.posts) charge

-- the last day for a dispute of a charge
abbrev pub notice_end_after : List Request → ℕ → Option ℕ
notice_end_after requests charge = notice_end_with (run requests) (lists_of name (run requests).accounts) charge

-- these cents are paid on 2024-01-10, to an account without a balance
abbrev pub overpaid : ℕ → List Request
overpaid cents = fee_row 3000 4100 ∷ roll 2024 1 10 ∷ open_a 2500 ∷ pay_online 2 (day_at 2024 1 10) cents ∷ []

-- a notice of 2025-03-01 of a rate from 2025-04-15 on; today is that day
abbrev pub noticed : List Request
noticed =
    fee_row 3000 4100 ∷ roll 2024 1 10 ∷ open_a 2500 ∷ roll 2025 1 10 ∷ roll 2025 3 16
    ∷ to_a 2 (post.Notice (day_at 2025 3 1) category.Purchase 2499 (day_at 2025 4 15)) ∷ roll 2025 4 15 ∷ []

-- a review of 2025-04-15 finds that the rate has to fall
abbrev pub reviewed : List Request
reviewed = noticed ++ to_a 3 (post.Review (day_at 2025 4 15) Reduce) ∷ []

-- a missed due date of 2024-03-01 and a penalty of 2024-05-01, 45 days ago
abbrev pub penalized : List Request
penalized =
    fee_row 3000 4100 ∷ roll 2024 1 10 ∷ open_a 2500 ∷ charge_jan10 2 place.Purchase 100000 ∷ roll 2024 2 6 ∷ to_a 3 (post.Bill 1)
    ∷ roll 2024 5 1 ∷ to_a 4 post.Penalty ∷ roll 2024 6 15 ∷ []

-- last days, and the tasks that are open
pub record DeadlinesAreWorked : Type 0 where
  -- a charge may be disputed for 60 days from the issue of the first statement that shows it
  pub dispute : notice_end_after charged_late 2 ≡ Some (day_at 2024 4 6)
  -- a statement that was issued before the charge came in doesn't show it
  pub dispute_later : notice_end_after charged_late 4 ≡ Some (day_at 2024 5 5)
  -- nor does that of an earlier cycle than the charge's corrected day
  pub dispute_moved : notice_end_after moved 2 ≡ Some (day_at 2024 5 5)
  -- and without one there is no last day
  pub dispute_unbilled : notice_end_after (fee_row 3000 4100 ∷ roll 2024 1 10 ∷ open_a 2500 ∷ charge_jan10 2 place.Purchase 100 ∷ []) 2 ≡ None
  -- a dispute is acknowledged within 30 days
  pub ack : ack_by (day_at 2024 3 20) ≡ day_at 2024 4 19
  -- and resolved within two complete billing cycles, or 90 days where that is sooner
  pub two_cycles : resolve_by of_15th (day_at 2024 3 20) ≡ day_at 2024 6 15
  pub days90 : resolve_by of_15th (day_at 2024 3 16) ≡ day_at 2024 6 14
  pub disputes : tasks_after disputed ≡ task_of (day_at 2024 5 16) task.Ack 4 ∷ task_of (day_at 2024 7 15) task.Resolve 4 ∷ []
  -- tasks stand by day, then by account
  pub two_accounts : tasks_after two_disputed
      ≡ task_of (day_at 2024 5 16) task.Ack 4 ∷ task_of_b (day_at 2024 5 16) task.Ack 4 ∷ task_of (day_at 2024 7 15) task.Resolve 4
      ∷ task_of_b (day_at 2024 7 15) task.Resolve 4 ∷ []
  pub acknowledged : tasks_after (disputed ++ to_a 5 (post.Ack (day_at 2024 4 17) 4) ∷ []) ≡ task_of (day_at 2024 7 15) task.Resolve 4 ∷ []
  pub resolved : tasks_after (disputed ++ to_a 5 (post.Resolve (day_at 2024 4 17) 4 0) ∷ []) ≡ []
  -- a refund that was asked for on a Wednesday is due on the seventh business day; a holiday moves it
  pub refund : refund_by [] (day_at 2024 1 10) ≡ day_at 2024 1 19
  pub refund_holiday : refund_by (day_at 2024 1 15 ∷ []) (day_at 2024 1 10) ≡ day_at 2024 1 22
  pub asked : tasks_after (overpaid 200 ++ to_a 3 (post.AskRefund (day_at 2024 1 10)) ∷ [])
      ≡ task_of (day_at 2024 1 19) task.Refund 3 ∷ task_of (day_at 2024 7 10) task.Credit 0 ∷ []
  -- a credit balance above one dollar is refunded within six months
  pub dollar : tasks_after (overpaid 100) ≡ []
  pub above_dollar : tasks_after (overpaid 101) ≡ task_of (day_at 2024 7 10) task.Credit 0 ∷ []
  -- a rate increase is reviewed within six months of its effective day, and again six months after each review
  pub review : tasks_after noticed ≡ task_of (day_at 2025 10 15) task.Review 0 ∷ []
  pub reviewed_again : tasks_after (noticed ++ roll 2025 5 31 ∷ to_a 3 (post.Review (day_at 2025 5 31) Keep) ∷ [])
      ≡ task_of (day_at 2025 11 30) task.Review 0 ∷ []
  -- a penalty takes effect 45 days after it was accepted
  pub penalty_review : tasks_after penalized ≡ task_of (day_at 2024 12 15) task.Review 0 ∷ []
  -- a rate that a review found too high falls within 45 days
  pub lower : lower_by (day_at 2025 4 15) ≡ day_at 2025 5 30
  pub reduce : tasks_after reviewed ≡ task_of (day_at 2025 5 30) task.Lower 3 ∷ task_of (day_at 2025 10 15) task.Review 0 ∷ []
  pub reduced : tasks_after (reviewed ++ to_a 4 (post.Lower (day_at 2025 4 15) category.Purchase 1999) ∷ []) ≡ task_of (day_at 2025 10 15) task.Review 0 ∷ []
