-- The book of an account: what its fold gives up to a day. It is the ledger's own.
use Rattle.std.specs.Prelude.{ℕ, ◌+◌, ◌++◌, Bool, length, List, [], ◌∷◌}
use Rattle.card_events.specs.declared.anchor.Anchor.{Anchor}
use Rattle.card_events.specs.History.{anchor_of, is_variable, terms_of}
use Rattle.card_events.specs.declared.kept.Kept.{Kept}
use Rattle.card_events.specs.declared.post.Terms.{Terms}
use Rattle.card_model.specs.Cycles.{Cycle, Seen}
use Rattle.card_model.specs.Rates.{index_for, rate_on, lowerings, starts}
use Rattle.card_model.specs.Segments.{SegmentTerms, segments, newest}
use Rattle.card_model.specs.declared.entry.Entry.{Entry}
use Rattle.card_model.specs.declared.entry.EntryKind.{EntryKind}
use Rattle.card_model.specs.declared.entry.Note.{Note}
use Rattle.card_model.specs.declared.fee.Fee.{Fee}
use Rattle.card_model.specs.declared.segment.Interval.{Interval}
use Rattle.card_model.specs.declared.segment.Sort.TheVariants as sort

-- the entries, the closed cycles, the penalty fees charged and the penalties begun, each in order
pub record Book : Type 0 where
  pub entries : List Entry
  pub cycles : List Cycle
  pub fees : List Fee
  pub penalties : List Interval

-- the book before the opening day
abbrev pub empty_book : Book
empty_book = record { entries = []; cycles = []; fees = []; penalties = [] }

-- what stays the same from day to day; `variable` where the opening rates follow the index
pub record Account : Type 0 where
  pub anchor : Anchor
  pub terms : Terms
  pub variable : Bool

-- the account that a history opens
abbrev pub account_of : List Kept → Account
account_of history = record { anchor = anchor_of history; terms = terms_of history; variable = is_variable history }

-- the cycle that the day being folded lies in
abbrev pub present_cycle : Book → ℕ
present_cycle b = length b.cycles + 1

-- ---- a book with more in it
-- a book with these entries added
abbrev pub with_entries : List Entry → Book → Book
with_entries es b = record { entries = b.entries ++ es; cycles = b.cycles; fees = b.fees; penalties = b.penalties }

-- a book with these for its entries
abbrev pub with_all_entries : List Entry → Book → Book
with_all_entries es b = record { entries = es; cycles = b.cycles; fees = b.fees; penalties = b.penalties }

-- a book with a closed cycle more
abbrev pub with_cycle : Cycle → Book → Book
with_cycle c b = record { entries = b.entries; cycles = b.cycles ++ c ∷ []; fees = b.fees; penalties = b.penalties }

-- a book with these penalties
abbrev pub with_penalties : List Interval → Book → Book
with_penalties ps b = record { entries = b.entries; cycles = b.cycles; fees = b.fees; penalties = ps }

-- ---- the segments and rates of the day
-- the segments that the posts up to today have added, and the opening vintages
abbrev pub all_segments : Account → Seen → List SegmentTerms
all_segments a seen = segments a.anchor a.terms seen.posts

-- the rate of a segment on a day, with the penalties that the book has
abbrev pub rate_in : Account → Seen → Book → ℕ → SegmentTerms → ℕ
rate_in a seen b day g =
    rate_on (index_for a.variable seen.index day) (lowerings seen.posts) a.terms.penalty (starts day b.penalties) (all_segments a seen) day g

-- the newest Purchase vintage that has begun
abbrev pub newest_purchase : Account → Seen → ℕ
newest_purchase a seen = newest sort.Purchase seen.day (all_segments a seen)

-- the note of entries of today
abbrev pub note_of : Seen → EntryKind → ℕ → Note
note_of seen k n = record { day = seen.day; kind = k; post = n }
