-- The fold of an account, day by day: the ledger's own order of what 12 CFR 1026 asks for.
use Rattle.std.specs.Prelude.{ℕ, zero, suc, ◌+◌, ◌-◌, ◌==◌, if◌then◌else◌, slice_get, List, [], ◌∷◌, Option, Some, None}
use Rattle.card_events.specs.Civil.{day_of_month}
use Rattle.card_events.specs.History.{anchor_of}
use Rattle.card_events.specs.SharedRows.{SharedRows}
use Rattle.card_events.specs.declared.kept.Kept.{Kept}
use Rattle.card_model.specs.Books.{Account, Book, account_of, empty_book, present_cycle}
use Rattle.card_model.specs.Caps.{row_for}
use Rattle.card_model.specs.Closing.{close}
use Rattle.card_model.specs.Cycles.{Cycle, IssuedRow, Seen, Sheet, last_cycle, posts_on, seen_on}
use Rattle.card_model.specs.DueDates.{on_due}
use Rattle.card_model.specs.Effects.{after_posts}

-- One day, where the present cycle has this issued row or none: what a due date brings, then the posts, then the closing
unfoldable pub day_after : Option IssuedRow → Account → Seen → Book → Book
day_after issued a seen b =
    let posted = after_posts issued a seen (posts_on seen) (on_due issued a seen b (last_cycle b.cycles)) in
    let closed = close issued a seen posted in
    if day_of_month seen.day == a.anchor.close_day then closed else posted

-- the book after so many days from the opening day on
unfoldable pub book_after : List IssuedRow → Account → (ℕ → Seen) → ℕ → Book
book_after rows a seen zero = empty_book
book_after rows a seen (suc days) =
    let before = book_after rows a seen days in
    day_after (row_for (present_cycle before) rows) a (seen (a.anchor.opened + days)) before

-- the book at the end of a day; before the opening day it is empty
unfoldable pub book : List Kept → List IssuedRow → SharedRows → ℕ → Book
book history issued shared day =
    book_after issued (account_of history) (seen_on (anchor_of history) shared history issued) (day + 1 - (anchor_of history).opened)

-- ---- what a Bill issues
-- the closed cycle with a number
abbrev pub cycle_at : ℕ → List Cycle → Option Cycle
cycle_at zero cycles = None
cycle_at (suc n) cycles = slice_get cycles n

-- the row of a closed cycle, with its sheet
abbrev pub row_of_cycle : ℕ → ℕ → ℕ → (Cycle → Sheet) → Option Cycle → List IssuedRow
row_of_cycle cycle bill today sheet None = []
row_of_cycle cycle bill today sheet (Some c) = record { cycle = cycle; bill = bill; day = today; statement = c; sheet = sheet c } ∷ []

-- the row that a Bill of a cycle adds today, none where the cycle isn't closed. What a cycle's sheet shows is given
abbrev pub rows_issued : ℕ → ℕ → ℕ → (Cycle → Sheet) → Book → List IssuedRow
rows_issued cycle bill today sheet b = row_of_cycle cycle bill today sheet (cycle_at cycle b.cycles)
