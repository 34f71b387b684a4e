-- What a periodic statement shows beside its cycle (12 CFR 1026.7(b)), line by line. All of it is read from the book at the
-- end of the cycle's closing day. Days are day numbers, rates basis points, amounts cents.
use Rattle.std.specs.Prelude.{ℕ, ◌+◌, ◌-◌, Bool, true, ◌&&◌, not, ◌==◌, nat_le, nat_lt, if◌then◌else◌, drop, List, [], ◌∷◌, Option, Some, None, ℤ, pos, ◌+ℤ◌, ◌-ℤ◌, nat_abs}
use Rattle.std.specs.List.{filter, filter_map, list_any, range_with_len, sum_by}
use Rattle.std.specs.Option.{option_map_or}
use Rattle.card_events.specs.Money.{interest}
use Rattle.card_events.specs.Civil.{date_of}
use Rattle.card_events.specs.History.{anchor_of}
use Rattle.card_events.specs.SharedRows.{FeeRow, SharedRows}
use Rattle.card_events.specs.declared.kept.Kept.{Kept}
use Rattle.card_model.specs.Books.{Account, Book, account_of, all_segments, rate_in}
use Rattle.card_model.specs.Caps.{row_for}
use Rattle.card_model.specs.Closing.{by_segment}
use Rattle.card_model.specs.Cycles.{Cycle, IssuedRow, Seen, Sheet, amount_at, amounts_sum, seen_on}
use Rattle.card_model.specs.Entries.{is_kind, owing}
use Rattle.card_model.specs.Fees.{fees_sum, row_in_force, tier_amount}
use Rattle.card_model.specs.Folds.{book, cycle_at}
use Rattle.card_model.specs.Interest.{accrual}
use Rattle.card_model.specs.Refusals.{Present}
use Rattle.card_model.specs.Segments.{SegmentTerms, is_deferred_on}
use Rattle.card_model.specs.declared.entry.Entry.{Entry}
use Rattle.card_model.specs.declared.entry.EntryKind.TheVariants as kind
use Rattle.card_model.specs.declared.lines.DeferredLine.{DeferredLine}
use Rattle.card_model.specs.declared.lines.Move.{Move}
use Rattle.card_model.specs.declared.lines.RateLine.{RateLine}

-- ---- the previous balance
-- what the statement of the cycle before said, where there is one, else what was owed then. What changed in that since, by
-- posts that are dated back or corrected, stands beside it
abbrev pub previous_balance : List IssuedRow → Cycle → ℤ
previous_balance issued c = option_map_or (λ r. r.statement.new_balance) (row_for (c.number - 1) issued) c.previous

-- ---- the transactions (12 CFR 1026.7(b)(2), (b)(3), (b)(6))
-- how many entries there were at a closing
abbrev pub entries_by : Option Cycle → ℕ
entries_by None = 0
entries_by (Some d) = d.entries

-- the entries of a cycle: those of its closing's book that the book of the closing before didn't have
abbrev pub cycle_entries : Cycle → Book → List Entry
cycle_entries c b = drop (entries_by (cycle_at (c.number - 1) b.cycles)) b.entries

-- an entry of a transaction. Interest has a line of its own, and a hold moves nothing that is owed
abbrev pub moves_owed : Entry → Bool
moves_owed e = not (is_kind kind.Interest e.kind) && not (is_kind kind.Hold e.kind)

-- an entry is of this transaction: of its day, its kind and its post
abbrev pub is_of_move : Entry → Move → Bool
is_of_move e m = (m.day == e.day) && is_kind m.kind e.kind && (m.post == e.post)

-- the sum of transactions
abbrev pub moves_sum : List Move → ℤ
moves_sum [] = pos 0
moves_sum (m ∷ ms) = m.cents +ℤ moves_sum ms

-- the transaction that an entry begins, where later entries make up these transactions
abbrev pub begun_move : Entry → List Move → Move
begun_move e later = record { day = e.day; kind = e.kind; post = e.post; cents = e.cents +ℤ moves_sum (filter (is_of_move e) later) }

-- the transactions that entries make up: each stands where its first entry does, with the cents of all its entries
unfoldable pub gathered : List Entry → List Move
gathered [] = []
gathered (e ∷ es) = let later = gathered es in begun_move e later ∷ filter (λ m. not (is_of_move e m)) later

-- a transaction that came to something
abbrev pub has_cents : Move → Bool
has_cents m = not (nat_abs m.cents == 0)

-- the transactions of entries
unfoldable pub moves_of : List Entry → List Move
moves_of entries = filter has_cents (gathered (filter moves_owed entries))

-- ---- sums of the year to date (12 CFR 1026.7(b)(6)(ii), (iii))
-- the sum over the cycles whose closing lies in the calendar year of this one
unfoldable pub year_sum : (Cycle → ℕ) → ℕ → List Cycle → ℕ
year_sum amount closing cycles = sum_by (λ d. if (date_of d.closing).year == (date_of closing).year then amount d else 0) cycles

-- ---- rates (12 CFR 1026.7(b)(4), (b)(5), (b)(6)(ii))
-- the balance of a segment at the end of a day
abbrev pub owing_on : ℕ → ℕ → List Entry → ℕ
owing_on s day entries = owing s (filter (λ e. nat_le e.day day) entries)

-- a segment had a balance above 0 at the end of some day from one to another
unfoldable pub had_balance : ℕ → ℕ → List Entry → ℕ → Bool
had_balance first last entries s = list_any (λ day. nat_lt 0 (owing_on s day entries)) (range_with_len first (last + 1 - first))

-- the line of a segment
abbrev pub rate_line : Account → Seen → Cycle → Book → SegmentTerms → Option RateLine
rate_line a seen c b g =
    if had_balance c.first c.closing b.entries g.id
    then Some (record { segment = g.id; sort = g.sort; rate = rate_in a seen b c.closing g; average = amount_at g.id c.average; interest = amount_at g.id c.interest })
    else None

-- a line for each segment that had a balance, by number
unfoldable pub rate_lines : Account → Seen → Cycle → Book → List RateLine
rate_lines a seen c b = filter_map (rate_line a seen c b) (all_segments a seen)

-- ---- deferred interest (12 CFR 1026.7(b)(14))
-- the last day of a plan's period
abbrev pub end_of : Option ℕ → ℕ
end_of None = 0
end_of (Some end) = end

-- the line of a Deferred in its period with a balance
abbrev pub deferred_line : Seen → Book → SegmentTerms → Option DeferredLine
deferred_line seen b g =
    if is_deferred_on seen.day g && nat_lt 0 (owing g.id b.entries)
    then Some (record { segment = g.id; balance = pos (owing g.id b.entries); accrued = pos (interest (accrual seen b g)); ends = end_of g.ends })
    else None

-- a line for each of them, by number
unfoldable pub deferred_lines : Account → Seen → Book → List DeferredLine
deferred_lines a seen b = filter_map (deferred_line seen b) (all_segments a seen)

-- ---- the late payment warning (12 CFR 1026.7(b)(11)(i)(B))
-- the repeat amount of the fee row in force on the day of issue, 0 without one
abbrev pub late_up_to : List FeeRow → ℕ → ℕ
late_up_to fees issue = tier_amount (row_in_force (filter (λ r. nat_le r.day issue) fees)) true

-- ---- the sheet
-- that of a cycle, issued on a day, read from the book of its closing day
unfoldable pub sheet_in : Account → Seen → List FeeRow → List IssuedRow → ℕ → Cycle → Book → Sheet
sheet_in a seen fees issued issue c b =
    record {
      due_payment = nat_le (issue + 21) c.due;
      previous = previous_balance issued c;
      corrections = c.previous -ℤ previous_balance issued c;
      moves = moves_of (cycle_entries c b);
      fees_year = pos (year_sum (λ d. fees_sum d.fees) c.closing b.cycles);
      interest_year = pos (year_sum (λ d. amounts_sum d.interest) c.closing b.cycles);
      rates = rate_lines a seen c b;
      deferred = deferred_lines a seen b;
      late_up_to = pos (late_up_to fees issue);
      penalty = a.terms.penalty;
      closing = by_segment (λ g. owing g.id b.entries) (all_segments a seen);
      floor = pos a.terms.floor;
      pct = a.terms.pct;
    }

-- the sheet of a closed cycle, issued on a day, of an account with these lists
unfoldable pub sheet_of : List Kept → List IssuedRow → SharedRows → ℕ → Cycle → Sheet
sheet_of history issued shared issue c =
    sheet_in (account_of history) (seen_on (anchor_of history) shared history issued c.closing) shared.fees issued issue c (book history issued shared c.closing)

-- the sheet that a Bill of a cycle issues today
abbrev pub issued_sheet_of : Present → Cycle → Sheet
issued_sheet_of now c = sheet_of now.lists.posts now.lists.issued now.shared now.today c

-- The sheet of a cycle as it is now: with the day on which it was issued, else with its due date, so that no payment is due
abbrev pub restated_sheet_of : Present → Cycle → Sheet
restated_sheet_of now c =
    sheet_of now.lists.posts now.lists.issued now.shared (option_map_or (λ r. r.day) (row_for c.number now.lists.issued) c.due) c
