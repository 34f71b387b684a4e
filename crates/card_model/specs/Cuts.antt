-- Of a later book, what the book of an earlier closing was. And the break days of a book, by the penalties that it has.
use Rattle.std.specs.Prelude.{ℕ, ◌+◌, ◌-◌, ◌≡◌, ◌≤◌, Bool, false, nat_le, nat_lt, if◌then◌else◌, take, map, List, Option, Some, None}
use Rattle.std.specs.List.{filter}
use Rattle.card_events.specs.Range.{last_calendar_day}
use Rattle.card_events.specs.History.{anchor_of, corrected}
use Rattle.card_events.specs.SharedRows.{SharedRows}
use Rattle.card_events.specs.declared.kept.Kept.{Kept}
use Rattle.card_model.specs.Books.{Book, account_of}
use Rattle.card_model.specs.Breaks.{is_break}
use Rattle.card_model.specs.CycleDays.{IsOpening}
use Rattle.card_model.specs.Cycles.{Cycle, IssuedRow}
use Rattle.card_model.specs.Folds.{book, cycle_at}
use Rattle.card_model.specs.declared.segment.Interval.{Interval}

-- ---- the penalties of an earlier day
-- a penalty's last day lies before a day, so that its end was known at the end of that day
abbrev pub ended_before : ℕ → Option ℕ → Bool
ended_before day None = false
ended_before day (Some last) = nat_lt last day

-- a penalty as it stood at the end of a day
abbrev pub as_of : ℕ → Interval → Interval
as_of day i = if ended_before day i.last then i else record { begins = i.begins; last = None }

-- the penalties as they stood at the end of a day: a penalty begins 45 days after the day of its post
unfoldable pub penalties_at : ℕ → List Interval → List Interval
penalties_at day penalties = map (as_of day) (filter (λ i. nat_le i.begins (day + 45)) penalties)

-- ---- the book of an earlier closing
-- the book is what a later one was at the closing of its k-th cycle
pub record IsCutOf (k : ℕ) (c : Cycle) (later at : Book) : Type 0 where
  pub entries : take c.entries later.entries ≡ at.entries
  pub cycles : take k later.cycles ≡ at.cycles
  pub fees : filter (λ f. nat_le f.cycle k) later.fees ≡ at.fees
  pub penalties : penalties_at c.closing later.penalties ≡ at.penalties

-- so is the book of the day on which a cycle closed, of the book of every later day
abbrev pub ClosingsAreCuts : Type 0
ClosingsAreCuts =
    (history : List Kept) (issued : List IssuedRow) (shared : SharedRows) (day k : ℕ) (c : Cycle)
    → cycle_at k (book history issued shared day).cycles ≡ Some c
    → IsCutOf k c (book history issued shared day) (book history issued shared c.closing)

-- ---- break days
-- a break day, by the penalties in the book of some day
abbrev pub is_break_by : List Kept → List IssuedRow → SharedRows → ℕ → ℕ → Bool
is_break_by history issued shared on day =
    is_break (account_of history) (corrected (anchor_of history) shared.holidays history) issued shared.index (book history issued shared on).penalties day

-- Every later book tells of a day what the book of the day before tells of it
abbrev pub BreakDaysStay : Type 0
BreakDaysStay =
    (history : List Kept) (issued : List IssuedRow) (shared : SharedRows) (day later : ℕ) → IsOpening (anchor_of history) → day ≤ later → later ≤ last_calendar_day
    → is_break_by history issued shared later day ≡ is_break_by history issued shared (day - 1) day
