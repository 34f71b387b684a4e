-- On which segments the entries of a book lie, on which days, and in which cycle the book is.
use Rattle.std.specs.Prelude.{ℕ, ◌+◌, ◌-◌, ◌==◌, ◌≡◌, ◌≤◌, ◌<◌, Bool, false, map, List, ◌∷◌, pos}
use Rattle.std.specs.List.{All, Contains, filter}
use Rattle.card_bounds.specs.Bounds.{book_amid}
use Rattle.card_events.specs.Billing.{closing, cycle_of}
use Rattle.card_events.specs.Range.{last_calendar_day}
use Rattle.card_events.specs.History.{CorrectedPost, anchor_of}
use Rattle.card_events.specs.SharedRows.{SharedRows}
use Rattle.card_events.specs.declared.kept.Kept.{Kept}
use Rattle.card_model.specs.Books.{Book, account_of, all_segments}
use Rattle.card_model.specs.Closing.{first_day_of}
use Rattle.card_model.specs.CycleDays.{IsOpening}
use Rattle.card_model.specs.Cycles.{IssuedRow, seen_on}
use Rattle.card_model.specs.Entries.{balance}
use Rattle.card_model.specs.Folds.{book, book_after}
use Rattle.card_model.specs.Segments.{SegmentTerms}
use Rattle.card_model.specs.declared.entry.Entry.{Entry}

-- ---- segments
-- the numbers of Credit, of Held and of these segments
abbrev pub numbers_of : List SegmentTerms → List ℕ
numbers_of segments = 0 ∷ 1 ∷ map (λ g. g.id) segments

-- every entry lies on Credit, on Held or on one of these segments
abbrev pub LieOn : List SegmentTerms → List Entry → Type 0
LieOn segments entries = All (λ e. Contains (numbers_of segments) e.segment) entries

-- the segments that are there by a day
abbrev pub segments_by : List Kept → List IssuedRow → SharedRows → ℕ → List SegmentTerms
segments_by history issued shared day = all_segments (account_of history) (seen_on (anchor_of history) shared history issued day)

-- the book before the n-th day
abbrev pub book_before : List Kept → List IssuedRow → SharedRows → ℕ → Book
book_before history issued shared n = book_after issued (account_of history) (seen_on (anchor_of history) shared history issued) n

-- In the book of every day, before a day, and after its due date and any posts, every entry lies on Credit, on Held or on a
-- segment that is there by that day, or by any later one. So a segment that isn't among them has no entry; nor has one that
-- isn't seen, where those that are there are the seen ones of a list in which no other has its number. Without an entry
-- there is no balance
pub record EntriesHaveSegments : Type 0 where
  pub days :
      (history : List Kept) (issued : List IssuedRow) (shared : SharedRows) (day later : ℕ) → day ≤ later
      → LieOn (segments_by history issued shared later) (book history issued shared day).entries
  pub before :
      (history : List Kept) (issued : List IssuedRow) (shared : SharedRows) (n later : ℕ) → (anchor_of history).opened + n ≤ later
      → LieOn (segments_by history issued shared later) (book_before history issued shared n).entries
  pub posts :
      (history : List Kept) (issued : List IssuedRow) (shared : SharedRows) (n later : ℕ) (done : List CorrectedPost) → (anchor_of history).opened + n ≤ later
      → LieOn (segments_by history issued shared later) (book_amid history issued shared n done).entries
  pub without :
      (segments : List SegmentTerms) (entries : List Entry) (s : ℕ) → LieOn segments entries → 2 ≤ s → All (λ g. (g.id == s) ≡ false) segments
      → All (λ e. (e.segment == s) ≡ false) entries
  pub unseen :
      (all : List SegmentTerms) (sees : SegmentTerms → Bool) (g : SegmentTerms) (entries : List Entry) → LieOn (filter sees all) entries → 2 ≤ g.id
      → sees g ≡ false → ((h : SegmentTerms) → Contains all h → h.id ≡ g.id → h ≡ g)
      → All (λ e. (e.segment == g.id) ≡ false) entries
  pub none : (entries : List Entry) (s : ℕ) → All (λ e. (e.segment == s) ≡ false) entries → balance s entries ≡ pos 0

-- ---- days
-- No entry is of a later day than its book: that of a day, that before a day, and that after its due date and any posts
pub record EntriesHaveDays : Type 0 where
  pub days : (history : List Kept) (issued : List IssuedRow) (shared : SharedRows) (day : ℕ) → All (λ e. e.day ≤ day) (book history issued shared day).entries
  pub before : (history : List Kept) (issued : List IssuedRow) (shared : SharedRows) (n : ℕ) → All (λ e. e.day < (anchor_of history).opened + n) (book_before history issued shared n).entries
  pub posts :
      (history : List Kept) (issued : List IssuedRow) (shared : SharedRows) (n : ℕ) (done : List CorrectedPost)
      → All (λ e. e.day ≤ (anchor_of history).opened + n) (book_amid history issued shared n done).entries

-- ---- cycles
-- The first day of the cycle that a book is in is that of the cycle in which the next day lies; due dates and posts change no
-- cycle
pub record CyclesBeginInTurn : Type 0 where
  pub days :
      (history : List Kept) (issued : List IssuedRow) (shared : SharedRows) (day : ℕ) → IsOpening (anchor_of history) → day ≤ last_calendar_day
      → first_day_of (account_of history) (book history issued shared day) ≡ closing (anchor_of history) (cycle_of (anchor_of history) (day + 1) - 1) + 1
  pub before :
      (history : List Kept) (issued : List IssuedRow) (shared : SharedRows) (n : ℕ) → IsOpening (anchor_of history) → (anchor_of history).opened + n ≤ 48577
      → first_day_of (account_of history) (book_before history issued shared n)
      ≡ closing (anchor_of history) (cycle_of (anchor_of history) ((anchor_of history).opened + n) - 1) + 1
  pub posts :
      (history : List Kept) (issued : List IssuedRow) (shared : SharedRows) (n : ℕ) (done : List CorrectedPost)
      → (book_amid history issued shared n done).cycles ≡ (book_before history issued shared n).cycles
