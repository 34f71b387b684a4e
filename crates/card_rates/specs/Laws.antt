-- Laws on rates, for all lists of posts. What is read from all posts is what is read from those up to the day.
use Rattle.std.specs.Prelude.{◌≡◌, ℕ, ◌+◌, ◌<◌, ◌≤◌, false, true, List, [], length, Option, Some}
use Rattle.std.specs.List.{All, Contains}
use Rattle.card_events.specs.History.{CorrectedPost, anchor_of, corrected, is_variable}
use Rattle.card_events.specs.SharedRows.{SharedRows}
use Rattle.card_events.specs.declared.kept.Kept.{Kept}
use Rattle.card_events.specs.declared.request.Request.{Request}
use Rattle.card_model.specs.Books.{Account, Book, account_of, all_segments, rate_in}
use Rattle.card_model.specs.Breaks.{is_break}
use Rattle.card_model.specs.Closing.{close}
use Rattle.card_model.specs.Cycles.{Cycle, IssuedRow, Seen, seen_on}
use Rattle.card_model.specs.DueDates.{on_due}
use Rattle.card_model.specs.Effects.{after_posts}
use Rattle.card_model.specs.Folds.{book}
use Rattle.card_model.specs.Machine.{NamedAccount, run}
use Rattle.card_model.specs.Rates.{accrual_rate, starts}
use Rattle.card_model.specs.Segments.{SegmentTerms, newest}
use Rattle.card_model.specs.declared.segment.Interval.{Interval}
use Rattle.card_model.specs.declared.segment.Sort.{Sort}
use Rattle.card_rates.specs.RateBooks.{AreByNumber, rate_of, rates_of}
use Rattle.card_model.specs.Accepted.{HasFewSegments}

-- what may be seen on a day
abbrev pub seen_in : List Kept → List IssuedRow → SharedRows → ℕ → Seen
seen_in history issued shared day = seen_on (anchor_of history) shared history issued day

-- the segments that may be seen on a day
abbrev pub segments_on : List Kept → List IssuedRow → SharedRows → ℕ → List SegmentTerms
segments_on history issued shared day = all_segments (account_of history) (seen_in history issued shared day)

-- ---- segments
-- a segment of a day is one of all
abbrev pub SegmentsStay : Type 0
SegmentsStay =
    (history : List Kept) (issued : List IssuedRow) (shared : SharedRows) (day : ℕ) (g : SegmentTerms)
    → Contains (segments_on history issued shared day) g → Contains (rates_of shared.holidays history []).segments g

-- all segments stand by their numbers
abbrev pub SegmentsAreByNumber : Type 0
SegmentsAreByNumber = (holidays : List ℕ) (history : List Kept) → AreByNumber 2 (rates_of holidays history []).segments

-- the number of a segment, and that of a newest vintage, is one of theirs: 2 and above, and below how many there are with
-- Credit and Held
abbrev pub SegmentsAreThere : Type 0
SegmentsAreThere =
    (holidays : List ℕ) (history : List Kept) (g : SegmentTerms) → Contains (rates_of holidays history []).segments g
    → (2 ≤ g.id) × (g.id < length (rates_of holidays history []).segments + 2)

abbrev pub VintagesAreThere : Type 0
VintagesAreThere = (holidays : List ℕ) (history : List Kept) (s : Sort) (day : ℕ) → newest s day (rates_of holidays history []).segments < length (rates_of holidays history []).segments + 2

-- what accrues on a day is a segment of that day
abbrev pub AccrualsAreOfTheDay : Type 0
AccrualsAreOfTheDay =
    (history : List Kept) (issued : List IssuedRow) (shared : SharedRows) (day rate : ℕ) (g : SegmentTerms)
    → Contains (rates_of shared.holidays history []).segments g → accrual_rate day g ≡ Some rate → Contains (segments_on history issued shared day) g

-- the newest vintage of a day, read from all posts, is that of the posts up to the day, or up to any later one
abbrev pub VintagesAreOfTheDay : Type 0
VintagesAreOfTheDay =
    (history : List Kept) (issued : List IssuedRow) (shared : SharedRows) (day later : ℕ) (s : Sort) → day ≤ later
    → newest s day (rates_of shared.holidays history []).segments ≡ newest s day (segments_on history issued shared later)

pub record SegmentsOfADay : Type 0 where
  pub stay : SegmentsStay
  pub numbers : SegmentsAreByNumber
  pub there : SegmentsAreThere
  pub vintages_there : VintagesAreThere
  pub accruals : AccrualsAreOfTheDay
  pub vintages : VintagesAreOfTheDay

-- ---- penalties
-- where a penalty begins or ends on a later day, those in force on a day stay the same: in what a due date brings, in
-- the posts of a day, in a closing, and so in the book of every later day
pub record PenaltiesStay : Type 0 where
  pub due : (issued : Option IssuedRow) (a : Account) (seen : Seen) (b : Book) (c : Option Cycle) (day : ℕ) → day < seen.day → starts day (on_due issued a seen b c).penalties ≡ starts day b.penalties
  pub posts : (issued : Option IssuedRow) (a : Account) (seen : Seen) (ps : List CorrectedPost) (b : Book) (day : ℕ) → day ≤ seen.day → starts day (after_posts issued a seen ps b).penalties ≡ starts day b.penalties
  pub closing : (issued : Option IssuedRow) (a : Account) (seen : Seen) (b : Book) → (close issued a seen b).penalties ≡ b.penalties
  pub books : (history : List Kept) (issued : List IssuedRow) (shared : SharedRows) (day later : ℕ) → day ≤ later → starts day (book history issued shared later).penalties ≡ starts day (book history issued shared day).penalties

-- ---- rates
-- with the penalties of any book, the rate read from all posts is that of the posts up to the day, or up to any later one
abbrev pub RatesOfAnyBook : Type 0
RatesOfAnyBook =
    (history : List Kept) (issued : List IssuedRow) (shared : SharedRows) (b : Book) (day later : ℕ) (g : SegmentTerms) → day ≤ later
    → rate_of shared.index (rates_of shared.holidays history b.penalties) day g ≡ rate_in (account_of history) (seen_in history issued shared later) b day g

-- with the penalties of a later book too, it is the rate that the day itself had
abbrev pub RatesOfALaterBook : Type 0
RatesOfALaterBook =
    (history : List Kept) (issued : List IssuedRow) (shared : SharedRows) (day later : ℕ) (g : SegmentTerms) → day ≤ later
    → rate_of shared.index (rates_of shared.holidays history (book history issued shared later).penalties) day g
    ≡ rate_in (account_of history) (seen_in history issued shared day) (book history issued shared day) day g

pub record RatesOfADay : Type 0 where
  pub any : RatesOfAnyBook
  pub later : RatesOfALaterBook

-- ---- spans
-- none of so many days from the first on is a break day
abbrev pub AreQuiet : List Kept → List IssuedRow → SharedRows → List Interval → ℕ → ℕ → Type 0
AreQuiet history issued shared penalties first days =
    (i : ℕ) → i < days → is_break (account_of history) (corrected (anchor_of history) shared.holidays history) issued shared.index penalties (first + i) ≡ false

-- Over days without a break day all is as on the first of them, which for rates that follow the index isn't before the opening:
-- until then an index row is no break day. The day before it may differ: a plan's end is a break day, and its rate changes on the
-- day after
pub record SpansKeepRates : Type 0 where
  pub rates :
      (history : List Kept) (issued : List IssuedRow) (shared : SharedRows) (penalties : List Interval) (first days i : ℕ) (g : SegmentTerms)
      → (is_variable history ≡ true → (anchor_of history).opened ≤ first) → AreQuiet history issued shared penalties first days → i < days
      → Contains (rates_of shared.holidays history penalties).segments g
      → rate_of shared.index (rates_of shared.holidays history penalties) (first + i) g ≡ rate_of shared.index (rates_of shared.holidays history penalties) first g
  pub accruals :
      (history : List Kept) (issued : List IssuedRow) (shared : SharedRows) (penalties : List Interval) (first days i : ℕ) (g : SegmentTerms)
      → AreQuiet history issued shared penalties first days → i < days → Contains (rates_of shared.holidays history penalties).segments g
      → accrual_rate (first + i) g ≡ accrual_rate first g
  pub vintages :
      (history : List Kept) (issued : List IssuedRow) (shared : SharedRows) (penalties : List Interval) (first days i : ℕ) (s : Sort)
      → AreQuiet history issued shared penalties first days → i < days
      → newest s (first + i) (rates_of shared.holidays history penalties).segments ≡ newest s first (rates_of shared.holidays history penalties).segments

-- ---- runs
-- after every list of requests, each account has at most 64 segments
abbrev pub RunsHaveFewSegments : Type 0
RunsHaveFewSegments = (requests : List Request) → All (λ (x : NamedAccount). HasFewSegments x.lists.posts) (run requests).accounts
