-- The open tasks of all accounts (12 CFR 1026.11(a), .13(c), .59).
use Rattle.std.specs.Prelude.{ℕ, Bool, true, false, ◌&&◌, ◌||◌, ◌==◌, nat_lt, if◌then◌else◌, List, [], ◌∷◌}
use Rattle.std.specs.List.{flat_map}
use Rattle.card_events.specs.SharedRows.{shared_rows}
use Rattle.card_model.specs.Books.{Book}
use Rattle.card_model.specs.Deadlines.{credit_since, open_tasks}
use Rattle.card_model.specs.Entries.{credit_balance}
use Rattle.card_model.specs.Machine.{NamedAccount, State}
use Rattle.card_model.specs.Refusals.{Lists, Present, anchor_now, book_today, corrected_now}
use Rattle.card_model.specs.declared.task.Task.{Task}

-- what the posts of an account are judged by in a state
abbrev pub present_in : State → Lists → Present
present_in s lists = record { today = s.today; shared = shared_rows s.shared; lists = lists }

-- the open tasks of an account whose book at the end of today is this one
abbrev pub tasks_in : List ℕ → Present → Book → List Task
tasks_in account now b =
    open_tasks account (anchor_now now) now.shared.holidays (corrected_now now) (credit_balance b.entries)
    (credit_since b.entries (anchor_now now).opened now.today) now.today

-- the open tasks of an account, by day, kind and post
unfoldable pub account_tasks : State → NamedAccount → List Task
account_tasks s x = let now = present_in s x.lists in tasks_in x.name now (book_today now)

-- the bytes of a name come before those of another
unfoldable pub is_name_before : List ℕ → List ℕ → Bool
is_name_before [] [] = false
is_name_before [] (y ∷ ys) = true
is_name_before (x ∷ xs) [] = false
is_name_before (x ∷ xs) (y ∷ ys) = nat_lt x y || ((x == y) && is_name_before xs ys)

-- an earlier day, or the same day and a name before the other
abbrev pub is_task_before : Task → Task → Bool
is_task_before t u = nat_lt t.by u.by || ((t.by == u.by) && is_name_before t.account u.account)

-- a task among others that stand in order, behind those before it alone
unfoldable pub with_work : Task → List Task → List Task
with_work t [] = t ∷ []
with_work t (u ∷ us) = let later = u ∷ with_work t us in if is_task_before u t then later else t ∷ u ∷ us

-- by day and account, those of one day and account as they stand
unfoldable pub in_work_order : List Task → List Task
in_work_order [] = []
in_work_order (t ∷ ts) = with_work t (in_work_order ts)

-- the open tasks of all accounts, by day, account, kind and post
unfoldable pub work : State → List Task
work s = in_work_order (flat_map (account_tasks s) s.accounts)
