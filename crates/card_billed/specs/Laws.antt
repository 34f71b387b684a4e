-- A row that is made late is the row that was issued. Days are day numbers.
use Rattle.std.specs.Prelude.{ℕ, ◌+◌, ◌-◌, ◌≡◌, ◌≤◌, ◌<◌, List, [], ◌∷◌, ◌++◌, length, true, Some}
use Rattle.std.specs.List.{All}
use Rattle.card_events.specs.Billing.{closing}
use Rattle.card_events.specs.Range.{last_calendar_day}
use Rattle.card_events.specs.History.{anchor_of, at_number}
use Rattle.card_events.specs.SharedRows.{SharedRows}
use Rattle.card_events.specs.declared.kept.Kept.{Kept}
use Rattle.card_model.specs.Accepted.{AreAccepted}
use Rattle.card_model.specs.Cuts.{is_break_by}
use Rattle.card_model.specs.Closing.{previous_of}
use Rattle.card_model.specs.CycleDays.{IsOpening}
use Rattle.card_model.specs.Cycles.{Cycle, IssuedRow}
use Rattle.card_model.specs.Folds.{book, cycle_at, rows_issued}
use Rattle.card_model.specs.Laws.{HistoriesAgree, bill_of, fees_up_to}
use Rattle.card_model.specs.Sheets.{sheet_of}
use Rattle.card_model.specs.Spans.{steps_among}
use Rattle.card_billed.specs.Unmade.{AreUnmade, IsUnmade}

-- What a Bill issues today is such a row, whenever it is made
abbrev pub BillsMayWait : Type 0
BillsMayWait =
    (history : List Kept) (issued : List IssuedRow) (shared : SharedRows) (key : List ℕ) (today cycle : ℕ) (r : IssuedRow) → 1 ≤ length history → IsOpening (anchor_of history)
    → today ≤ last_calendar_day → closing (anchor_of history) cycle < today
    → rows_issued cycle (length history + 1) today (sheet_of history issued shared today) (book history issued shared today) ≡ r ∷ []
    → IsUnmade (history ++ bill_of (length history + 1) key today cycle ∷ []) issued shared r

-- It is what the book of each day from the closing on gives
abbrev pub RowsAreMadeLate : Type 0
RowsAreMadeLate =
    (history : List Kept) (made : List IssuedRow) (shared : SharedRows) (r : IssuedRow) (day : ℕ) → IsUnmade history made shared r → closing (anchor_of history) r.cycle ≤ day
    → rows_issued r.cycle r.bill r.day (sheet_of history made shared r.day) (book history made shared day) ≡ r ∷ []

-- It stays where posts come behind all others, or rows that all accounts share, that change no day up to the closing of its cycle; and
-- no fee row up to its day
abbrev pub LaterPostsLeaveIt : Type 0
LaterPostsLeaveIt =
    (history later : List Kept) (made : List IssuedRow) (shared other : SharedRows) (r : IssuedRow) → HistoriesAgree (closing (anchor_of history) r.cycle) shared other history later
    → fees_up_to r.day other ≡ fees_up_to r.day shared → ((b : Kept) → at_number r.bill history ≡ Some b → at_number r.bill later ≡ Some b) → IsUnmade history made shared r → IsUnmade later made other r

-- With such rows, the book of no day up to that of the first of them is another one
abbrev pub UnmadeRowsChangeNoPastDay : Type 0
UnmadeRowsChangeNoPastDay =
    (history : List Kept) (made rest : List IssuedRow) (shared : SharedRows) (day : ℕ) → AreUnmade history made shared rest → All (λ r. day ≤ r.day) rest
    → book history (made ++ rest) shared day ≡ book history made shared day

-- Nor is the sheet of a cycle that closed by then and goes on from the cycle before it: a row of that one says of it what its book says
abbrev pub UnmadeRowsLeaveSheets : Type 0
UnmadeRowsLeaveSheets =
    (history : List Kept) (made rest : List IssuedRow) (shared : SharedRows) (issue : ℕ) (c : Cycle) → AreUnmade history made shared rest → All (λ r. c.closing ≤ r.day) rest
    → closing (anchor_of history) (c.number - 1) ≤ c.closing → c.previous ≡ previous_of (cycle_at (c.number - 1) (book history made shared c.closing).cycles)
    → sheet_of history (made ++ rest) shared issue c ≡ sheet_of history made shared issue c

-- ---- the steps of a fold
-- The day of an issued row is a break day
abbrev pub IssueDaysAreBreaks : Type 0
IssueDaysAreBreaks =
    (history : List Kept) (made rest : List IssuedRow) (shared : SharedRows) (r : IssuedRow) (on : ℕ) → is_break_by history (made ++ r ∷ rest) shared on r.day ≡ true

-- To the day of the first row that isn't made, a fold without these rows takes as many steps as one with them
abbrev pub StepsToTheFirst : Type 0
StepsToTheFirst =
    (history : List Kept) (made rest : List IssuedRow) (shared : SharedRows) (r : IssuedRow) (first : ℕ) → AreUnmade history made shared (r ∷ rest) → All (λ x. r.day ≤ x.day) (r ∷ rest)
    → steps_among (is_break_by history made shared r.day) first r.day ≡ steps_among (is_break_by history (made ++ r ∷ rest) shared r.day) first r.day

-- ---- lists
-- The first rows of an account hold of it what all of them do
abbrev pub FrontsAreAccepted : Type 0
FrontsAreAccepted = (history : List Kept) (made rest : List IssuedRow) → AreAccepted (record { posts = history; issued = made ++ rest }) → AreAccepted (record { posts = history; issued = made })

-- ---- all rows that aren't made
-- what is given now leaves a row: it agrees up to the closing of its cycle, and its fee rows up to its day, and its Bill is there
pub record IsLeft (history later : List Kept) (shared other : SharedRows) (r : IssuedRow) : Type 0 where
  pub agree : HistoriesAgree (closing (anchor_of history) r.cycle) shared other history later
  pub fees : fees_up_to r.day other ≡ fees_up_to r.day shared
  pub there : (b : Kept) → at_number r.bill history ≡ Some b → at_number r.bill later ≡ Some b

-- So it leaves them all
abbrev pub RowsStayUnmade : Type 0
RowsStayUnmade =
    (history later : List Kept) (made rest : List IssuedRow) (shared other : SharedRows) → All (IsLeft history later shared other) rest → AreUnmade history made shared rest → AreUnmade later made other rest

-- One more behind them, as a Bill of today issues it
abbrev pub RowsGrowUnmade : Type 0
RowsGrowUnmade =
    (history : List Kept) (made rest : List IssuedRow) (shared : SharedRows) (r : IssuedRow) → AreUnmade history made shared rest → IsUnmade history (made ++ rest) shared r → AreUnmade history made shared (rest ++ r ∷ [])
