-- Which cycles the book of today has.
use Rattle.std.specs.Prelude.{◌≡◌, ℕ, true, IsSomeAnd, is_some}
use Rattle.card_account.specs.Accounts.{MayBeFolded, OpenAccount, is_closed, restated_statement}
use Rattle.card_replay.specs.Replays.{present_of}
use Rattle.card_events.specs.History.{anchor_of}
use Rattle.card_events.specs.SharedRows.{SharedRows}
use Rattle.card_model.specs.CycleDays.{HasItsDays}
use Rattle.card_model.specs.Folds.{cycle_at}
use Rattle.card_model.specs.Refusals.{Present, book_today}

-- A cycle that is closed before today is in the book of today, with its number and its days; and exactly such a cycle has a
-- restated statement
pub record HasClosedCycles (now : Present) : Type 0 where
  pub there : (cycle : ℕ) → is_closed now.today now.lists cycle ≡ true → IsSomeAnd (cycle_at cycle (book_today now).cycles) (HasItsDays (anchor_of now.lists.posts) cycle)
  pub restated : (cycle : ℕ) → is_some (restated_statement now cycle) ≡ is_closed now.today now.lists cycle

-- so it is in every account that may be folded today
abbrev pub ClosedCyclesAreInTheBook : Type 0
ClosedCyclesAreInTheBook =
    (today : ℕ) (shared : SharedRows) (a : OpenAccount) → MayBeFolded today shared a → HasClosedCycles (present_of today shared a.named.lists)
