-- How the rows that a book gives a segment grow, day by day.
use Rattle.std.specs.Prelude.{ℕ, ◌+◌, ◌≡◌, ◌≤◌, ◌<◌, Bool, true, false, ◌||◌, ◌==◌, List, ◌++◌, Option, ◌-◌}
use Rattle.std.specs.List.{All}
use Rattle.card_events.specs.SharedRows.{SharedRows}
use Rattle.card_events.specs.declared.kept.Kept.{Kept}
use Rattle.card_closing.specs.BookRows.{AreLowering, brought, day_row, repayments, rows_of}
use Rattle.card_closing.specs.Rows.{Rows, no_rows, others, row_of, with_days}
use Rattle.card_closing.specs.declared.rows.Repayment.{Repayment}
use Rattle.card_model.specs.Books.{Account, Book}
use Rattle.card_model.specs.Closing.{Posting, post_interest}
use Rattle.card_model.specs.Cycles.{IssuedRow, Seen}
use Rattle.card_model.specs.Entries.{is_kind}
use Rattle.card_model.specs.Folds.{book}
use Rattle.card_model.specs.Interest.{accrual, cycle_interest}
use Rattle.card_model.specs.Segments.{SegmentTerms}
use Rattle.card_model.specs.declared.entry.Entry.{Entry}
use Rattle.card_model.specs.declared.entry.EntryKind.TheVariants as kind
use Rattle.card_model.specs.declared.grace.GraceCase.{GraceCase}

-- ---- from day to day
-- a later day of the same cycle, with n days between on which the segment's balance and rate are the same
pub record GoesOn (n balance rate first : ℕ) (a : Account) (g : SegmentTerms) (seen later : Seen) (b c : Book) : Type 0 where
  pub begun : first ≤ seen.day + 1
  pub day : later.day ≡ seen.day + n
  pub before : (day : ℕ) → first ≤ day → day ≤ seen.day → day_row a later c g day ≡ day_row a seen b g day
  pub since : (day : ℕ) → seen.day < day → day ≤ later.day → day_row a later c g day ≡ row_of balance rate day

-- rows with these repayments
abbrev pub with_repaid : List Repayment → Rows → Rows
with_repaid repaid rows = record rows { repaid = repaid }

-- these payments, and one more
abbrev pub or_post : (ℕ → Bool) → ℕ → ℕ → Bool
or_post returned post n = returned n || (n == post)

-- no merchant's credit has this number
abbrev pub IsOfNoCredit : ℕ → List Entry → Type 0
IsOfNoCredit post entries = All (λ e. is_kind kind.Credit e.kind ≡ true → (e.post == post) ≡ false) entries

-- The rows of a cycle begin without any; each day adds its own. Those of a segment without entries are days without a
-- balance. Entries add their repayments, and a return takes out
-- those of its payment
pub record RowsGrow : Type 0 where
  pub begins : (a : Account) (seen : Seen) (b : Book) (g : SegmentTerms) → All (λ e. e.day ≤ seen.day) b.entries → rows_of a seen b (seen.day + 1) g ≡ no_rows (seen.day + 1)
  pub days :
      (n balance rate first : ℕ) (a : Account) (g : SegmentTerms) (seen later : Seen) (b c : Book) → GoesOn n balance rate first a g seen later b c
      → rows_of a later c first g ≡ with_days n balance rate (with_repaid (repayments later g.id first c.entries) (rows_of a seen b first g))
  pub added :
      (a : Account) (seen : Seen) (b : Book) (first : ℕ) (g : SegmentTerms) → All (λ e. (e.segment == g.id) ≡ false) b.entries
      → rows_of a seen b first g ≡ with_days (seen.day + 1 - first) 0 0 (no_rows first)
  pub entries : (returned : ℕ → Bool) (s first : ℕ) (xs ys : List Entry) → brought returned s first (xs ++ ys) ≡ brought returned s first xs ++ brought returned s first ys
  pub returned :
      (returned : ℕ → Bool) (post s first : ℕ) (entries : List Entry) → IsOfNoCredit post entries
      → brought (or_post returned post) s first entries ≡ others post (brought returned s first entries)

-- ---- at a closing
-- Interest that was posted on one segment changes neither the interest of another, nor an accrual
pub record InterestInTurn : Type 0 where
  pub amounts :
      (issued : Option IssuedRow) (a : Account) (seen : Seen) (purchase : GraceCase) (first : ℕ) (gs : List SegmentTerms) (p : Posting)
      → post_interest issued seen (cycle_interest a seen purchase first) gs p ≡ post_interest issued seen (λ b g. cycle_interest a seen purchase first p.book g) gs p
  pub accruals :
      (issued : Option IssuedRow) (seen : Seen) (amount : Book → SegmentTerms → ℕ) (gs : List SegmentTerms) (p : Posting) (g : SegmentTerms)
      → accrual seen (post_interest issued seen amount gs p).book g ≡ accrual seen p.book g

-- ---- in the book of every day
-- payments and credits lower what is owed
abbrev pub RepaymentsLower : Type 0
RepaymentsLower = (history : List Kept) (issued : List IssuedRow) (shared : SharedRows) (day : ℕ) → AreLowering (book history issued shared day).entries
