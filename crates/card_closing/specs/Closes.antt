-- How a closing stands for the book that it closes (12 CFR 1026.7(b), .54).
use Rattle.std.specs.Prelude.{◌+◌, ◌≡◌, Bool, drop, List, Option, unsigned_abs}
use Rattle.card_events.specs.Billing.{due_after}
use Rattle.card_closing.specs.Accruals.{Accrued}
use Rattle.card_closing.specs.Rows.{Rows}
use Rattle.card_model.specs.Books.{Account, Book, present_cycle}
use Rattle.card_model.specs.Closing.{close, first_day_of, previous_of, purchase_case_in}
use Rattle.card_model.specs.Cycles.{Cycle, IssuedRow, Seen, last_cycle}
use Rattle.card_model.specs.Effects.{closing_from}
use Rattle.card_model.specs.Fees.{fees_in}
use Rattle.card_model.specs.Payments.{past_due}
use Rattle.card_model.specs.Segments.{SegmentTerms}
use Rattle.card_model.specs.declared.entry.Entry.{Entry}
use Rattle.card_model.specs.declared.fee.Fee.{Fee}
use Rattle.card_segments.specs.Balances.{Balances}
use Rattle.card_closing.specs.Interest.{StandFor, statement_of}
use Rattle.card_closing.specs.declared.closing.Closing.{Closing}

-- the days and amounts of a closing are those of the account, the day and the book
pub record IsOfBook (c : Closing) (a : Account) (seen : Seen) (b : Book) : Type 0 where
  pub cycle : c.number ≡ present_cycle b
  pub first_day : c.first ≡ first_day_of a b
  pub today : c.closing ≡ seen.day
  pub due_day : c.due ≡ due_after a.anchor.close_day seen.day
  pub next_day : c.next_closing ≡ closing_from a (seen.day + 1)
  pub grace : c.purchase ≡ purchase_case_in seen b
  pub owed_before : c.previous ≡ previous_of (last_cycle b.cycles)
  pub least : unsigned_abs c.floor ≡ a.terms.floor
  pub part : c.pct ≡ a.terms.pct
  pub left : c.past_due ≡ past_due seen seen.day (last_cycle b.cycles)

-- What a closing is given is of a book: its days and amounts, the issued statement, the entries, segments, rows and accruals,
-- and, among fees, those of the cycle
pub record IsGivenFor (c : Closing) (issued : Option Cycle) (segments : Balances) (rows : List Rows) (accruals : List Accrued) (fees : List Fee) (entries : List Entry)
    (row : Option IssuedRow) (all : List SegmentTerms) (sees : SegmentTerms → Bool) (a : Account) (seen : Seen) (b : Book) : Type 0 where
  pub of_book : IsOfBook c a seen b
  pub statement : issued ≡ statement_of row
  pub same_entries : entries ≡ b.entries
  pub same_fees : fees_in (present_cycle b) fees ≡ fees_in (present_cycle b) b.fees
  pub stand : StandFor all sees a seen b (drop 2 segments.segments) rows accruals

-- whatever book a closing is given of, this holds of the book and of it closed
abbrev pub ClosesAs : Closing → Option Cycle → Balances → List Rows → List Accrued → List Fee → List Entry → (Book → Book → Type 0) → Type 0
ClosesAs c issued segments rows accruals fees entries P =
    (row : Option IssuedRow) (all : List SegmentTerms) (sees : SegmentTerms → Bool) (a : Account) (seen : Seen) (b : Book)
    → IsGivenFor c issued segments rows accruals fees entries row all sees a seen b → P b (close row a seen b)
