-- Laws on the segments of a day: how an account that the ledger has accepted meets what the calls ask for.
use Rattle.std.specs.Prelude.{ℕ, ◌≡◌, ◌≤◌, false, List, [], ℤ, pos}
use Rattle.std.specs.List.{Contains, filter}
use Rattle.card_events.specs.History.{anchor_of, corrected, terms_of}
use Rattle.card_events.specs.SharedRows.{SharedRows}
use Rattle.card_events.specs.declared.kept.Kept.{Kept}
use Rattle.card_model.specs.Books.{Book, account_of}
use Rattle.card_model.specs.Cycles.{IssuedRow}
use Rattle.card_model.specs.Entries.{AreBalances, balance}
use Rattle.card_model.specs.Segments.{SegmentTerms, kept_segments}
use Rattle.card_model.specs.declared.segment.Interval.{Interval}
use Rattle.card_rates.specs.Laws.{seen_in, segments_on}
use Rattle.card_rates.specs.RateBooks.{rates_of}
use Rattle.card_effects.specs.Standing.{AreRated, StandsAt, is_added}

-- the segments of all posts and their rates are of one account
abbrev pub SegmentsAreRated : Type 0
SegmentsAreRated =
    (holidays : List ℕ) (history : List Kept) (penalties : List Interval)
    → AreRated (kept_segments (anchor_of history) (terms_of history) (corrected (anchor_of history) holidays history)) (rates_of holidays history penalties)

-- from the opening day on, the segments of a day are those of all posts that are there
abbrev pub SegmentsAreThose : Type 0
SegmentsAreThose =
    (history : List Kept) (issued : List IssuedRow) (shared : SharedRows) (day : ℕ) → (anchor_of history).opened ≤ day
    → segments_on history issued shared day ≡ filter (is_added day) (rates_of shared.holidays history []).segments

-- a segment that is to come on a day has no balance
abbrev pub HaveNone : List Kept → SharedRows → ℕ → Book → Type 0
HaveNone history shared day b =
    (g : SegmentTerms) → Contains (rates_of shared.holidays history []).segments g → is_added day g ≡ false → balance g.id b.entries ≡ pos 0

-- a book in which those that are to come have no balance stands behind its entries, their sums, and the rates with its penalties
abbrev pub BooksStand : Type 0
BooksStand =
    (history : List Kept) (issued : List IssuedRow) (shared : SharedRows) (day : ℕ) (b : Book) (balances : List ℤ) → (anchor_of history).opened ≤ day
    → AreBalances b.entries balances → HaveNone history shared day b
    → StandsAt (account_of history) (seen_in history issued shared day) b (rates_of shared.holidays history b.penalties) balances b.entries

pub record BooksOfADay : Type 0 where
  pub rated : SegmentsAreRated
  pub those : SegmentsAreThose
  pub stand : BooksStand
