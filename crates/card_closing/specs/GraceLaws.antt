-- Laws on the interest of a cycle.
use Rattle.std.specs.Prelude.{ℕ, ◌+◌, ◌≡◌, ◌≤◌, ◌<◌, ◌==◌, ◌⊎◌, true, false, max, map, List, length, Some}
use Rattle.std.specs.List.{All, range_with_len}
use Rattle.card_closing.specs.BookRows.{AreLowering, HasOneCase, rows_of}
use Rattle.card_closing.specs.Rows.{DayRow, Rows, average_of, bearing, interest_on, repaid_later}
use Rattle.card_closing.specs.declared.rows.Repayment.{Repayment}
use Rattle.card_model.specs.Books.{Account, Book, rate_in}
use Rattle.card_model.specs.Cycles.{Seen}
use Rattle.card_model.specs.Interest.{average_balance, case_of, charged, interest_sum, repaid_after, row}
use Rattle.card_model.specs.Segments.{SegmentTerms, is_sort}
use Rattle.card_model.specs.declared.entry.Entry.{Entry}
use Rattle.card_model.specs.declared.grace.GraceCase.{GraceCase}
use Rattle.card_model.specs.declared.grace.GraceCase.TheVariants as case
use Rattle.card_model.specs.declared.segment.Sort.TheVariants as sort

-- ---- no earlier day, no repaid portion (12 CFR 1026.54(a)(1))
-- two books that give a segment the same rows, rates and later repayments on the days from one to today
pub record AgreeFrom (a : Account) (seen : Seen) (first : ℕ) (g : SegmentTerms) (b c : Book) : Type 0 where
  pub rows : (day : ℕ) → first ≤ day → day ≤ seen.day → row c.entries g.id day ≡ row b.entries g.id day
  pub rates : (day : ℕ) → first ≤ day → day ≤ seen.day → rate_in a seen c day g ≡ rate_in a seen b day g
  pub repaid : (day due : ℕ) → first ≤ day → repaid_after seen c.entries g.id day due ≡ repaid_after seen b.entries g.id day due

-- The sum of a cycle reads the rows of its own days alone. A balance that bears interest and what was repaid of it later,
-- up to the due date, are together no more than the greater of the day's balance and that repayment. Purchases of a
-- statement that was paid bear none
pub record NoEarlierDayNoRepaidPortion : Type 0 where
  pub own_days :
      (a : Account) (seen : Seen) (b c : Book) (purchase : GraceCase) (first : ℕ) (g : SegmentTerms) → AgreeFrom a seen first g b c
      → interest_sum a seen c purchase first g ≡ interest_sum a seen b purchase first g
  pub repaid_portion :
      (seen : Seen) (entries : List Entry) (s day due : ℕ)
      → charged (case.Lowered due) seen entries s day + repaid_after seen entries s day due ≤ max (row entries s day) (repaid_after seen entries s day due)
  pub paid : (a : Account) (seen : Seen) (b : Book) (first : ℕ) (g : SegmentTerms) → is_sort sort.Purchase g.sort ≡ true → interest_sum a seen b case.None first g ≡ 0

-- the rows are those of days in turn, from one on
abbrev pub AreDaysFrom : ℕ → List DayRow → Type 0
AreDaysFrom first days = map (λ (r : DayRow). r.day) days ≡ range_with_len first (length days)

-- the same of rows that are kept
pub record KeptRowsToo : Type 0 where
  pub repaid_portion : (repaid : List Repayment) (r : DayRow) (due : ℕ) → bearing (case.Lowered due) repaid r + repaid_later repaid r.day due ≤ max r.balance (repaid_later repaid r.day due)
  pub paid : (rows : Rows) → interest_on case.None rows ≡ 0

-- ---- kept rows and the book
-- where the rows kept are those of a book, their sum and their average are the definition's
pub record RowsOfABook : Type 0 where
  pub interest :
      (a : Account) (seen : Seen) (b : Book) (purchase : GraceCase) (first : ℕ) (g : SegmentTerms) → AreLowering b.entries → HasOneCase seen b purchase first g
      → interest_on (case_of purchase seen.day g) (rows_of a seen b first g) ≡ interest_sum a seen b purchase first g
  pub average :
      (a : Account) (seen : Seen) (b : Book) (purchase : GraceCase) (first : ℕ) (g : SegmentTerms) → AreLowering b.entries → HasOneCase seen b purchase first g
      → average_of (case_of purchase seen.day g) (rows_of a seen b first g) ≡ average_balance seen b purchase first g

-- A segment bears interest in one way for a whole cycle: always where it isn't deferred, and where it is, since its period
-- ends with a closing and nothing is owed before its first day. A segment without entries has no balance
pub record OneCaseACycle : Type 0 where
  pub others : (seen : Seen) (b : Book) (purchase : GraceCase) (first : ℕ) (g : SegmentTerms) → is_sort sort.Deferred g.sort ≡ false → HasOneCase seen b purchase first g
  pub deferred :
      (seen : Seen) (b : Book) (purchase : GraceCase) (first end : ℕ) (g : SegmentTerms) → g.ends ≡ Some end → (seen.day ≤ end) ⊎ (end < first)
      → ((day : ℕ) → first ≤ day → day < g.begins → row b.entries g.id day ≡ 0) → HasOneCase seen b purchase first g
  pub without_entries : (entries : List Entry) (s day : ℕ) → All (λ e. (e.segment == s) ≡ false) entries → row entries s day ≡ 0
