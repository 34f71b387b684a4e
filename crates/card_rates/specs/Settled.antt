-- From which day on no date, Lower or penalty changes a rate.
use Rattle.std.specs.Prelude.{◌≡◌, ℕ, ◌≤◌, Bool, true, false, List, [], Option, Some, None}
use Rattle.std.specs.List.{All, Contains, list_any}
use Rattle.card_events.specs.SharedRows.{IndexRow}
use Rattle.card_model.specs.Rates.{Lowering, index_for, rate_with}
use Rattle.card_model.specs.Segments.{SegmentTerms, is_plan, is_sort}
use Rattle.card_model.specs.declared.segment.Interval.{Interval}
use Rattle.card_model.specs.declared.segment.Sort.TheVariants.{Deferred}
use Rattle.card_rates.specs.RateBooks.{AreByNumber, Rates, rate_of}
use Rattle.card_rates.specs.declared.book.DayIndex.{DayIndex}

-- a vintage without an end, that has begun by a day and bears its own rate by then: no later day is a date of it
pub record HasBegun (day : ℕ) (g : SegmentTerms) : Type 0 where
  pub vintage : is_plan g ≡ false
  pub endless : g.ends ≡ None
  pub begun : g.begins ≤ day
  pub borne : g.effective ≤ day

-- each segment bears its own rate from a day on, with the index where it follows that
pub record AreSettled (day : ℕ) (segments : List SegmentTerms) (lowers : List Lowering) (penalties : List Interval) : Type 0 where
  pub unlowered : lowers ≡ []
  pub unraised : penalties ≡ []
  pub begun : All (HasBegun day) segments

-- some segment is a deferred plan
abbrev pub has_deferred : List SegmentTerms → Bool
has_deferred segments = list_any (λ g. is_sort Deferred g.sort) segments

-- what a book of rates keeps of its lists: a day from which on they are settled, where it knows one, and whether there is a
-- deferred plan
pub record AreKept (segments : List SegmentTerms) (lowers : List Lowering) (penalties : List Interval) (known : Option ℕ) (deferred : Bool) : Type 0 where
  pub numbers : AreByNumber 2 segments
  pub settled : (day : ℕ) → known ≡ Some day → AreSettled day segments lowers penalties
  pub plans : deferred ≡ has_deferred segments

-- under each index, each segment bears on a day its own rate, with the index where it follows that
abbrev pub BearOwnRates : Rates → ℕ → Type 0
BearOwnRates r day = (rows : List IndexRow) (g : SegmentTerms) → Contains r.segments g → rate_of rows r day g ≡ rate_with (index_for r.variable rows day) g

-- what the rates of all segments on a day share, under an index
pub record IsOfDay (rows : List IndexRow) (r : Rates) (day : ℕ) (shared : DayIndex) : Type 0 where
  pub index_is : shared.index ≡ index_for r.variable rows day
  pub own : shared.settled ≡ true → BearOwnRates r day
