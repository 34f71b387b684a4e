-- The entries of an account, and its segments by number.
use Rattle.std.specs.Prelude.{◌<◌, ◌^◌, length, List}
use Rattle.std.specs.List.{All}
use Rattle.card_bounds.specs.Bounds.{IsSmallEntry}
use Rattle.card_model.specs.Refusals.{Present, book_today}
use Rattle.card_model.specs.declared.entry.Entry.{Entry}
use Rattle.card_model.specs.declared.segment.Segment.{Segment}
use Rattle.card_rates.specs.Segments.{account_segments}

pub record AccountEntries : Type 0 where
  pub entries : List Entry
  pub segments : List Segment

-- those of the book of today, in their order, and the segments that the posts add
abbrev pub entries_today : Present → AccountEntries
entries_today now = record { entries = (book_today now).entries; segments = account_segments now.shared.holidays now.lists.posts }

-- no entry is above 10^15 cents in size
abbrev pub AreSmallEntries : List Entry → Type 0
AreSmallEntries entries = All IsSmallEntry entries

-- each entry is on one of the segments, there are fewer than 2^32, and none is above 10^15 cents in size
pub record AreListed (entries : List Entry) (segments : List Segment) : Type 0 where
  pub placed : All (λ e. e.segment < length segments) entries
  pub few : length entries < 2 ^ 32
  pub small : AreSmallEntries entries
