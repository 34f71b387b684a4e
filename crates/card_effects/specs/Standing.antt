-- How the book of an account stands behind the rates, the balances and the entries that the code keeps of it on a day.
use Rattle.std.specs.Prelude.{ℕ, ◌+◌, ◌≡◌, Bool, false, nat_le, if◌then◌else◌, drop, map, List, ℤ, pos}
use Rattle.std.specs.List.{Contains, filter}
use Rattle.card_events.specs.History.{CorrectedPost, slot_of}
use Rattle.card_events.specs.declared.kept.Slot.{Slot}
use Rattle.card_model.specs.Books.{Account, Book, all_segments, rate_in}
use Rattle.card_model.specs.Cycles.{Seen}
use Rattle.card_model.specs.Entries.{AreBalances, balance}
use Rattle.card_model.specs.Segments.{SegmentTerms, is_plan, kept_segment}
use Rattle.card_model.specs.declared.entry.Entry.{Entry}
use Rattle.card_model.specs.declared.segment.Segment.{Segment}
use Rattle.card_rates.specs.RateBooks.{AreByNumber, Rates, rate_of}

-- a segment that is there on a day: a plan from its first day on, and a vintage from 15 days before its own
abbrev pub is_added : ℕ → SegmentTerms → Bool
is_added day g = if is_plan g then nat_le g.begins day else nat_le g.begins (day + 15)

-- segments and rates of one account: behind Credit and Held, each rated segment stands at its number
pub record AreRated (segments : List Segment) (rated : Rates) : Type 0 where
  pub kept : drop 2 segments ≡ map kept_segment rated.segments
  pub numbers : AreByNumber 2 rated.segments

-- The segments of today are those that are there, with their rates; the entries are the book's; each balance is the sum of
-- its segment's entries, and a segment that is still to come has none
pub record StandsAt (a : Account) (seen : Seen) (b : Book) (rated : Rates) (balances : List ℤ) (entries : List Entry) : Type 0 where
  pub segments : all_segments a seen ≡ filter (is_added seen.day) rated.segments
  pub rates : (g : SegmentTerms) → rate_of seen.index rated seen.day g ≡ rate_in a seen b seen.day g
  pub same : entries ≡ b.entries
  pub sums : AreBalances b.entries balances
  pub to_come : (g : SegmentTerms) → Contains rated.segments g → is_added seen.day g ≡ false → balance g.id b.entries ≡ pos 0

-- the slot is that of a post of today
pub record IsSlotOf (seen : Seen) (p : CorrectedPost) (slot : Slot) : Type 0 where
  pub same : slot ≡ slot_of p
  pub day : p.day ≡ seen.day
