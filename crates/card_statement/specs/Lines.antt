-- The lines of a statement that stand for segments, read from what the ledger keeps of an account: its segments with their
-- rates, their balances, accruals and entries (12 CFR 1026.7(b)(4), (b)(5), (b)(6)(ii), (b)(14)). Days are day numbers, rates
-- basis points, amounts cents.
use Rattle.std.specs.Prelude.{ℕ, ◌≡◌, true, false, ◌+◌, ◌-◌, Bool, ◌&&◌, ◌==◌, nat_le, nat_lt, if◌then◌else◌, List, Option, Some, None, ℤ, pos, neg_ℤ, slice_index_or}
use Rattle.std.specs.List.{All, Contains, filter, filter_map, list_any, range_with_len, sum_by}
use Rattle.card_events.specs.Money.{interest}
use Rattle.card_closing.specs.Accruals.{Accrued, nothing_accrued}
use Rattle.card_events.specs.SharedRows.{IndexRow}
use Rattle.card_model.specs.Books.{Account, Book, all_segments, rate_in}
use Rattle.card_model.specs.Closing.{by_segment}
use Rattle.card_model.specs.Cycles.{Amounts, Cycle, Seen, amount_at}
use Rattle.card_model.specs.Entries.{at_least_zero, balance, owing}
use Rattle.card_model.specs.Interest.{accrual}
use Rattle.card_model.specs.Segments.{SegmentTerms, is_deferred_on}
use Rattle.card_model.specs.declared.entry.Entry.{Entry}
use Rattle.card_rates.specs.RateBooks.{Rates, rate_of}
use Rattle.card_model.specs.Sheets.{deferred_lines, end_of, rate_lines}
use Rattle.card_model.specs.declared.lines.DeferredLine.{DeferredLine}
use Rattle.card_model.specs.declared.lines.RateLine.{RateLine}

-- ---- the balance of a segment on the days of a cycle
-- the entries that are on a segment
abbrev pub entries_on : ℕ → List Entry → List Entry
entries_on s entries = filter (λ e. e.segment == s) entries

-- what an entry raises by the end of a day, and what it lowers
abbrev pub raised : ℕ → Entry → ℕ
raised day e = if nat_le e.day day then at_least_zero e.cents else 0

abbrev pub lowered : ℕ → Entry → ℕ
lowered day e = if nat_le e.day day then at_least_zero (neg_ℤ e.cents) else 0

-- so do entries together
unfoldable pub raised_through : ℕ → List Entry → ℕ
raised_through day on = sum_by (raised day) on

unfoldable pub lowered_through : ℕ → List Entry → ℕ
lowered_through day on = sum_by (lowered day) on

-- more was raised than lowered by the end of a day
abbrev pub is_owed_on : List Entry → ℕ → Bool
is_owed_on on day = nat_lt (lowered_through day on) (raised_through day on)

-- so it was at the end of some day from one to another
unfoldable pub was_owed : ℕ → ℕ → List Entry → Bool
was_owed first last on = list_any (is_owed_on on) (range_with_len first (last + 1 - first))

-- ---- the lines of rates
-- that of a segment: its rate on the closing day under these rows of the index, and its amounts of the cycle
abbrev pub kept_line : List IndexRow → Rates → Cycle → SegmentTerms → RateLine
kept_line rows rated c g =
    record { segment = g.id; sort = g.sort; rate = rate_of rows rated c.closing g; average = amount_at g.id c.average; interest = amount_at g.id c.interest }

-- where it had a balance
unfoldable pub kept_rate_line : List IndexRow → Rates → Cycle → List Entry → SegmentTerms → Option RateLine
kept_rate_line rows rated c entries g = if was_owed c.first c.closing (entries_on g.id entries) then Some (kept_line rows rated c g) else None

-- those of all segments, by number
unfoldable pub kept_rate_lines : List IndexRow → Rates → Cycle → List Entry → List RateLine
kept_rate_lines rows rated c entries = filter_map (kept_rate_line rows rated c entries) rated.segments

-- ---- what is owed on each segment
-- what is owed on a segment, of balances by number
abbrev pub kept_owing : List ℤ → ℕ → ℕ
kept_owing balances s = at_least_zero (slice_index_or balances s (pos 0))

-- the amount of a segment, none for 0
abbrev pub owing_of : List ℤ → ℕ → Option (ℕ × ℕ)
owing_of balances s = if kept_owing balances s == 0 then None else Some (s, kept_owing balances s)

-- that of all segments, without those of 0
abbrev pub kept_amounts : List ℤ → List SegmentTerms → Amounts
kept_amounts balances segments = by_segment (λ g. kept_owing balances g.id) segments

-- ---- the lines of deferred interest
-- what a segment has accrued, of accruals by number from segment 2 on
abbrev pub kept_accrual : List Accrued → ℕ → ℕ
kept_accrual accruals s = (slice_index_or accruals (s - 2) nothing_accrued).sum

-- the line of a Deferred in its period with a balance
unfoldable pub kept_deferred_line : ℕ → List ℤ → List Accrued → SegmentTerms → Option DeferredLine
kept_deferred_line day balances accruals g =
    if is_deferred_on day g && nat_lt 0 (kept_owing balances g.id)
    then Some (record { segment = g.id; balance = pos (kept_owing balances g.id); accrued = pos (interest (kept_accrual accruals g.id)); ends = end_of g.ends })
    else None

-- those of all segments, by number
unfoldable pub kept_deferred_lines : ℕ → List ℤ → List Accrued → List SegmentTerms → List DeferredLine
kept_deferred_lines day balances accruals segments = filter_map (kept_deferred_line day balances accruals) segments

-- ---- by the book
-- What is kept of an account stands for its book: the segments of the day are those that it sees, and no entry is on another
-- one; rates, under these rows of the index, balances and accruals are those of the book
pub record AreKeptOf (rows : List IndexRow) (sees : SegmentTerms → Bool) (a : Account) (seen : Seen) (b : Book) (rated : Rates) (balances : List ℤ) (accruals : List Accrued) : Type 0 where
  pub seen_ones : all_segments a seen ≡ filter sees rated.segments
  pub others : (g : SegmentTerms) → Contains rated.segments g → sees g ≡ false → All (λ e. (e.segment == g.id) ≡ false) b.entries
  pub rates : (g : SegmentTerms) → rate_of rows rated seen.day g ≡ rate_in a seen b seen.day g
  pub sums : (s : ℕ) → slice_index_or balances s (pos 0) ≡ balance s b.entries
  pub accrued : (g : SegmentTerms) → Contains rated.segments g → is_deferred_on seen.day g ≡ true → kept_accrual accruals g.id ≡ accrual seen b g

-- then the lines that are read from it are those of the book
pub record AreLinesOf (rows : List IndexRow) (a : Account) (seen : Seen) (b : Book) (rated : Rates) (balances : List ℤ) (accruals : List Accrued) : Type 0 where
  pub rates : (c : Cycle) → c.closing ≡ seen.day → kept_rate_lines rows rated c b.entries ≡ rate_lines a seen c b
  pub deferred : kept_deferred_lines seen.day balances accruals rated.segments ≡ deferred_lines a seen b
  pub closing : kept_amounts balances rated.segments ≡ by_segment (λ g. owing g.id b.entries) (all_segments a seen)

abbrev pub LinesAreOfTheBook : Type 0
LinesAreOfTheBook =
    (rows : List IndexRow) (sees : SegmentTerms → Bool) (a : Account) (seen : Seen) (b : Book) (rated : Rates) (balances : List ℤ)
    (accruals : List Accrued) → AreKeptOf rows sees a seen b rated balances accruals → AreLinesOf rows a seen b rated balances accruals
