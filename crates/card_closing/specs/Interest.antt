-- The interest of all segments at a closing, and accruals whose period ends (12 CFR 1026.14(b), .54, .55(b)(1)), from what the
-- ledger keeps: segments, rows and accruals. Days are day numbers, amounts cents.
use Rattle.std.specs.Prelude.{ℕ, ◌≡◌, ◌+◌, ◌-◌, ◌==◌, ◌&&◌, true, false, Bool, if◌then◌else◌, nat_lt, drop, map, length, List, [], ◌∷◌, Option, Some, None, slice_index_or}
use Rattle.std.specs.List.{All, Contains, filter}
use Rattle.card_events.specs.Money.{interest}
use Rattle.card_closing.specs.Accruals.{Accrued, nothing_accrued}
use Rattle.card_closing.specs.BookRows.{AreLowering, HasOneCase, rows_of}
use Rattle.card_closing.specs.Rows.{Rows, interest_on}
use Rattle.card_model.specs.Books.{Account, Book, all_segments}
use Rattle.card_model.specs.Closing.{Posting, closing_interest, first_day_of, purchase_case_in}
use Rattle.card_model.specs.Cycles.{Cycle, IssuedRow, Seen, amount_at, amounts_sum}
use Rattle.card_model.specs.Entries.{owing}
use Rattle.card_model.specs.Interest.{accrual, case_in, ends_today}
use Rattle.card_model.specs.Segments.{SegmentTerms, is_deferred_in, is_deferred_on, is_over, kept_segment}
use Rattle.card_model.specs.declared.entry.Entry.{Entry}
use Rattle.card_model.specs.declared.entry.EntryKind.TheVariants as kind
use Rattle.card_model.specs.declared.entry.Note.{Note}
use Rattle.card_model.specs.declared.grace.GraceCase.{GraceCase}
use Rattle.card_model.specs.declared.segment.Segment.{Segment}
use Rattle.card_rates.specs.RateBooks.{AreByNumber}
use Rattle.card_closing.specs.Turns.{Turn, asked_of, asked_where_owed, in_turn}
use Rattle.card_closing.specs.declared.closing.Closing.{Closing}

-- ---- what is asked of a segment
-- the interest of its rows
unfoldable pub cycle_charge : GraceCase → ℕ → Segment → Rows → ℕ
cycle_charge purchase day g rows = interest (interest_on (case_in purchase day g) rows)

-- a Deferred whose period ends on a day
abbrev pub ends_in : ℕ → Segment → Bool
ends_in day g = is_deferred_in day g && is_over g.ends (day + 1)

-- what was accrued, where the period ends on the day
unfoldable pub accrual_charge : ℕ → Segment → Accrued → ℕ
accrual_charge day g accrued = if ends_in day g then interest accrued.sum else 0

-- that of a segment with its number, where something is owed on it
abbrev pub charge_where_owed : ℕ → ℕ → Segment → Accrued → List Entry → ℕ
charge_where_owed day id g accrued entries = if nat_lt 0 (owing id entries) then accrual_charge day g accrued else 0

-- amounts of segments, each with what is kept of it
unfoldable pub amounts_of : {A : Type 0} → (Segment → A → ℕ) → List Segment → List A → List ℕ
amounts_of amount [] xs = []
amounts_of amount (g ∷ gs) [] = []
amounts_of amount (g ∷ gs) (x ∷ xs) = amount g x ∷ amounts_of amount gs xs

-- ---- all segments
-- the note of interest of a day
abbrev pub note_on : ℕ → Note
note_on day = record { day = day; kind = kind.Interest; post = 0 }

-- first the interest of each segment but Credit and Held
unfoldable pub interest_turn : Option Cycle → ℕ → GraceCase → List Segment → List Rows → Turn → Turn
interest_turn issued day purchase gs rows t = in_turn issued (note_on day) (asked_of (amounts_of (cycle_charge purchase day) gs rows)) (length gs) t

-- then that of each Deferred whose period ends on the day, where something is owed on it
unfoldable pub accruals_turn : Option Cycle → ℕ → List Segment → List Accrued → Turn → Turn
accruals_turn issued day gs accruals t = in_turn issued (note_on day) (asked_where_owed (amounts_of (accrual_charge day) gs accruals)) (length gs) t

-- so it is of the closing, with the segments but Credit and Held
abbrev pub interest_of_all : Option Cycle → Closing → List Segment → List Rows → Turn → Turn
interest_of_all issued c segments rows t = interest_turn issued c.closing c.purchase (drop 2 segments) rows t

abbrev pub accruals_of_all : Option Cycle → Closing → List Segment → List Accrued → Turn → Turn
accruals_of_all issued c segments accruals t = accruals_turn issued c.closing (drop 2 segments) accruals t

-- ---- by the book
-- no entry of the book is on the segment, and it isn't in a plan's period
pub record IsUnseen (seen : Seen) (b : Book) (g : SegmentTerms) : Type 0 where
  pub entries : All (λ e. (e.segment == g.id) ≡ false) b.entries
  pub accrues : is_deferred_on seen.day g ≡ false

-- What a closing is given stands for a book: the segments but Credit and Held in order of number, of which the day sees
-- some; the rows of each in the cycle; and the accrual of each Deferred whose period ends today
pub record StandFor (all : List SegmentTerms) (sees : SegmentTerms → Bool) (a : Account) (seen : Seen) (b : Book) (gs : List Segment) (rows : List Rows) (accruals : List Accrued) : Type 0 where
  pub kept : gs ≡ map kept_segment all
  pub numbers : AreByNumber 2 all
  pub seen_ones : all_segments a seen ≡ filter sees all
  pub others : (g : SegmentTerms) → Contains all g → sees g ≡ false → IsUnseen seen b g
  pub same_rows : rows ≡ map (rows_of a seen b (first_day_of a b)) all
  pub cases : (g : SegmentTerms) → Contains all g → HasOneCase seen b (purchase_case_in seen b) (first_day_of a b) g
  pub accrued : (g : SegmentTerms) → Contains all g → ends_today seen g ≡ true → (slice_index_or accruals (g.id - 2) nothing_accrued).sum ≡ accrual seen b g
  pub each_accrues : length accruals ≡ length all
  pub lowering : AreLowering b.entries

-- the statement of an issued row
abbrev pub statement_of : Option IssuedRow → Option Cycle
statement_of None = None
statement_of (Some r) = Some r.statement

-- the same entries, and the same amounts by segment and together
pub record IsTurnOf (t : Turn) (p : Posting) : Type 0 where
  pub each : (s : ℕ) → amount_at s t.amounts ≡ amount_at s p.amounts
  pub sum : amounts_sum t.amounts ≡ amounts_sum p.amounts
  pub entries : t.entries ≡ p.book.entries

-- the two turns post what the definition of a closing posts
abbrev pub InterestOfAClosing : Type 0
InterestOfAClosing =
    (issued : Option IssuedRow) (all : List SegmentTerms) (sees : SegmentTerms → Bool) (a : Account) (seen : Seen) (b : Book) (gs : List Segment) (rows : List Rows) (accruals : List Accrued)
    → StandFor all sees a seen b gs rows accruals
    → IsTurnOf
    (accruals_turn (statement_of issued) seen.day gs accruals (interest_turn (statement_of issued) seen.day (purchase_case_in seen b) gs rows (record { amounts = []; entries = b.entries })))
    (closing_interest issued a seen b)
