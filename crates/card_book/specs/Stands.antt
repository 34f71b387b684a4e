-- What a Book keeps of an account, and how it stands beside a track for the book of a day. Days are day numbers.
use Rattle.std.specs.Prelude.{ℕ, ◌+◌, ◌-◌, ◌==◌, ◌≡◌, ◌≤◌, Bool, if◌then◌else◌, unwrap_or, List, Option, Some, None, ℤ, ⊤}
use Rattle.card_events.specs.History.{CorrectedPost}
use Rattle.card_events.specs.Range.{last_request_day}
use Rattle.card_fees.specs.Tallied.{IsTallyOf}
use Rattle.card_fees.specs.declared.tally.Tally.{Tally}
use Rattle.card_closing.specs.Accruals.{Accrued}
use Rattle.card_model.specs.Books.{Book, empty_book}
use Rattle.card_model.specs.Cuts.{is_break_by}
use Rattle.card_model.specs.Cycles.{Cycle}
use Rattle.card_model.specs.Deadlines.{credit_since}
use Rattle.card_model.specs.Entries.{AreBalances}
use Rattle.card_model.specs.Spans.{steps_among}
use Rattle.card_model.specs.declared.entry.Entry.{Entry}
use Rattle.card_model.specs.declared.fee.Fee.{Fee}
use Rattle.card_model.specs.declared.segment.Interval.{Interval}
use Rattle.card_model.specs.declared.segment.Segment.{Segment}
use Rattle.card_rates.specs.RateBooks.{Rates, rates_of}
use Rattle.card_rates.specs.Segments.{account_segments}
use Rattle.card_daily.specs.Given.{Given, Tallies, book_on, opened_in}
use Rattle.card_daily.specs.Stands.{AreBefore, HaveAccrued}
use Rattle.card_daily.specs.declared.state.State.{State}
use Rattle.card_daily.specs.declared.track.Track.{Track}

-- the last day folded, what is kept after it, what was counted of payments and credits by then, since when there is a credit
-- balance, and whether no fold was broken off
pub record Summary : Type 0 where
  pub day : Option ℕ
  pub state : State
  pub tally : Tally
  pub credit_since : Option ℕ
  pub whole : Bool

-- the last day folded, where there is one, is at most 2099-12-31
abbrev pub IsRequestDay : Option ℕ → Type 0
IsRequestDay None = ⊤
IsRequestDay (Some day) = day ≤ last_request_day

-- the book that a track records, with these penalties
abbrev pub recorded : Track → List Interval → Book
recorded t penalties = record { entries = t.entries.items; cycles = t.cycles.items; fees = t.fees.items; penalties = penalties }

-- the book at the end of a day, since when there is a credit balance (12 CFR 1026.11(a)(3)), the account's segments, and, by
-- their numbers, their balances, rates and accruals
pub record FoldedBook : Type 0 where
  pub book : Book
  pub since : Option ℕ
  pub segments : List Segment
  pub balances : List ℤ
  pub rates : Rates
  pub accruals : List Accrued

-- what is told of a Book, with these entries, closed cycles and fees
abbrev pub told : Summary → List Entry → List Cycle → List Fee → FoldedBook
told b entries cycles fees =
    record {
      book = record { entries = entries; cycles = cycles; fees = fees; penalties = b.state.rates.penalties };
      since = b.credit_since;
      segments = b.state.segments.segments;
      balances = b.state.segments.balances;
      rates = b.state.rates;
      accruals = b.state.accruals.items;
    }

-- it is the book of a day, and what is kept beside it stands for that book
pub record IsFoldedTo (g : Given) (day : ℕ) (f : FoldedBook) : Type 0 where
  pub book : f.book ≡ book_on g day
  pub since : f.since ≡ credit_since (book_on g day).entries (opened_in g) day
  pub segments : f.segments ≡ account_segments g.shared.holidays g.history
  pub balances : AreBalances (book_on g day).entries f.balances
  pub rates : f.rates ≡ rates_of g.shared.holidays g.history (book_on g day).penalties
  pub accruals : HaveAccrued g day (book_on g day) f.rates.segments f.accruals

-- the first day that isn't folded
abbrev pub day_to_fold : Given → Option ℕ → ℕ
day_to_fold g None = opened_in g
day_to_fold g (Some day) = day + 1

-- the book at the end of the last day folded, and the one before the opening day where none was
abbrev pub book_through : Given → Option ℕ → Book
book_through g None = empty_book
book_through g (Some day) = book_on g day

-- the first day of the run of days that end with a credit balance (12 CFR 1026.11(a)), by that book
abbrev pub since_through : Given → Option ℕ → Option ℕ
since_through g None = None
since_through g (Some day) = credit_since (book_on g day).entries (opened_in g) day

-- how many days there are from the first that isn't folded up to one
abbrev pub days_through : Given → Option ℕ → ℕ → ℕ
days_through g day to = to + 1 - day_to_fold g day

-- nothing was counted yet, from a day on: that is right for all posts
abbrev pub IsBlankFrom : ℕ → Tally → Type 0
IsBlankFrom from t = (posts : List CorrectedPost) (last : ℕ) → from ≤ last + 1 → IsTallyOf posts last t

-- what was counted by the end of the last day folded is right, and where none was, nothing was counted
abbrev pub HasTally : Given → Option ℕ → Tally → Type 0
HasTally g None t = IsBlankFrom (opened_in g) t
HasTally g (Some day) t = Tallies g day t

-- a Book and a track stand for the book at the end of the last day folded
pub record StandsFor (g : Given) (b : Summary) (t : Track) : Type 0 where
  pub opened : (day : ℕ) → b.day ≡ Some day → opened_in g ≤ day
  pub folded : AreBefore g (day_to_fold g b.day) b.state t
  pub since : b.credit_since ≡ since_through g b.day
  pub tally : HasTally g b.day b.tally

-- what that says of the track and the balances
pub record IsTheFold (g : Given) (b : Summary) (t : Track) : Type 0 where
  pub entries : t.entries.items ≡ (book_through g b.day).entries
  pub cycles : t.cycles.items ≡ (book_through g b.day).cycles
  pub fees : t.fees.items ≡ (book_through g b.day).fees
  pub penalties : b.state.rates.penalties ≡ (book_through g b.day).penalties
  pub segments : b.state.segments.segments ≡ account_segments g.shared.holidays g.history
  pub balances : AreBalances (book_through g b.day).entries b.state.segments.balances

-- of every Book and track that stand for one
abbrev pub BookIsTheFold : Type 0
BookIsTheFold = (g : Given) (b : Summary) (t : Track) → StandsFor g b t → IsTheFold g b t

-- ---- steps
-- whether a day is a break day, by the penalties in the book of another
abbrev pub breaks_of : Given → ℕ → ℕ → Bool
breaks_of g to day = is_break_by g.history g.issued g.shared to day

-- the steps of a fold from a first day to a last: one for each break day, and one for the last day where it is none
abbrev pub steps_over : Given → ℕ → ℕ → ℕ
steps_over g to first = steps_among (breaks_of g to) first to

-- ---- a day more
-- since when there is a credit balance after a day that ends with so much
abbrev pub since_after : ℕ → ℕ → Option ℕ → Option ℕ
since_after credit day since = if credit == 0 then None else Some (unwrap_or since day)
