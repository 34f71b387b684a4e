-- The cycles of a book are those of the calendar.
use Rattle.std.specs.Prelude.{ℕ, ◌+◌, ◌-◌, ◌≡◌, ◌≤◌, length, List, Some}
use Rattle.card_events.specs.Billing.{IsCloseDay, closing, cycle_of, due}
use Rattle.card_events.specs.Range.{last_calendar_day, first_calendar_day}
use Rattle.card_events.specs.declared.anchor.Anchor.{Anchor}
use Rattle.card_events.specs.History.{anchor_of}
use Rattle.card_events.specs.SharedRows.{SharedRows}
use Rattle.card_events.specs.declared.kept.Kept.{Kept}
use Rattle.card_model.specs.Cycles.{Cycle, IssuedRow}
use Rattle.card_model.specs.Folds.{book, cycle_at}

-- an opening day from 2011 to 2102, and a closing day that every month has
pub record IsOpening (a : Anchor) : Type 0 where
  pub first : first_calendar_day ≤ a.opened
  pub last : a.opened ≤ last_calendar_day
  pub close_day : IsCloseDay a.close_day

-- the k-th cycle's number and days
pub record HasItsDays (a : Anchor) (k : ℕ) (c : Cycle) : Type 0 where
  pub number : c.number ≡ k
  pub first : c.first ≡ closing a (k - 1) + 1
  pub closing : c.closing ≡ closing a k
  pub due : c.due ≡ due a k

-- The cycles closed by the end of a day are those before the next day's, and each has its number and days
pub record CyclesAreOfTheCalendar : Type 0 where
  pub count :
      (history : List Kept) (issued : List IssuedRow) (shared : SharedRows) (day : ℕ)
      → length (book history issued shared day).cycles + 1 ≡ cycle_of (anchor_of history) (day + 1)
  pub days :
      (history : List Kept) (issued : List IssuedRow) (shared : SharedRows) (day k : ℕ) (c : Cycle) → IsOpening (anchor_of history) → day ≤ last_calendar_day
      → cycle_at k (book history issued shared day).cycles ≡ Some c → HasItsDays (anchor_of history) k c
