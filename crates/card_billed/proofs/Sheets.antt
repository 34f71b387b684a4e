-- What a sheet shows depends on what is folded up to the closing, and on the fee rows up to the day of issue.
use Rattle.std.proofs.Common.{◌≡◌, ℕ, ◌+◌, Bool, true, false, nat_le, List, refl, sym, ap, ◌∙◌, arith, pos, ◌-ℤ◌}
use Rattle.std.specs.List.{filter}
use Rattle.card_events.specs.History.{anchor_of, is_variable}
use Rattle.card_events.specs.SharedRows.{FeeRow, SharedRows}
use Rattle.card_events.specs.declared.kept.Kept.{Kept}
use Rattle.card_model.specs.Books.{Account, Book, account_of, all_segments}
use Rattle.card_model.specs.Closing.{by_segment}
use Rattle.card_model.specs.Cycles.{Cycle, IssuedRow, Seen, Sheet, amounts_sum, seen_on}
use Rattle.card_model.specs.Entries.{owing}
use Rattle.card_model.specs.Fees.{fees_sum, row_in_force, tier_amount}
use Rattle.card_model.specs.Folds.{book}
use Rattle.card_model.specs.Interest.{accrual}
use Rattle.card_model.specs.Laws.{HistoriesAgree, fees_up_to}
use Rattle.card_model.specs.Segments.{SegmentTerms}
use Rattle.card_model.specs.Sheets.{cycle_entries, deferred_line, deferred_lines, moves_of, previous_balance, rate_line, rate_lines, sheet_in, sheet_of, year_sum}
use Rattle.card_model.specs.declared.lines.DeferredLine.{DeferredLine}
use Rattle.card_model.specs.declared.lines.RateLine.{RateLine}
use Rattle.card_model.proofs.Past.{past_is_enough}
use Rattle.card_model.proofs.Unindexed.{filter_map-agree, without_index}

-- ---- an account with fixed rates reads no index row
rate-line-blind : (a : Account) → a.variable ≡ false → (seen : Seen) (c : Cycle) (b : Book) (g : SegmentTerms) → rate_line a seen c b g ≡ rate_line a (without_index seen) c b g
rate-line-blind a fixed seen c b g = rw fixed refl

deferred-line-blind : (seen : Seen) (b : Book) (g : SegmentTerms) → deferred_line seen b g ≡ deferred_line (without_index seen) b g
unfolding accrual
deferred-line-blind seen b g = refl

rates-blind : (a : Account) → a.variable ≡ false → (seen : Seen) (c : Cycle) (b : Book) → rate_lines a seen c b ≡ rate_lines a (without_index seen) c b
unfolding rate_lines
rates-blind a fixed seen c b = filter_map-agree (rate_line a seen c b) (rate_line a (without_index seen) c b) (rate-line-blind a fixed seen c b) (all_segments a seen)

deferred-blind : (a : Account) (seen : Seen) (b : Book) → deferred_lines a seen b ≡ deferred_lines a (without_index seen) b
unfolding deferred_lines
deferred-blind a seen b = filter_map-agree (deferred_line seen b) (deferred_line (without_index seen) b) (deferred-line-blind seen b) (all_segments a seen)

-- ---- the lines that a sheet reads
-- the fee rows are those up to the day of issue
sheet-by : (a : Account) (seen : Seen) (issued : List IssuedRow) (issue : ℕ) (c : Cycle) (b : Book) → List FeeRow → List RateLine → List DeferredLine → Sheet
sheet-by a seen issued issue c b fees rates deferred =
    record {
      due_payment = nat_le (issue + 21) c.due;
      previous = previous_balance issued c;
      corrections = c.previous -ℤ previous_balance issued c;
      moves = moves_of (cycle_entries c b);
      fees_year = pos (year_sum (λ d. fees_sum d.fees) c.closing b.cycles);
      interest_year = pos (year_sum (λ d. amounts_sum d.interest) c.closing b.cycles);
      rates = rates;
      deferred = deferred;
      late_up_to = pos (tier_amount (row_in_force fees) true);
      penalty = a.terms.penalty;
      closing = by_segment (λ g. owing g.id b.entries) (all_segments a seen);
      floor = pos a.terms.floor;
      pct = a.terms.pct;
    }

abbrev by-day : ℕ → List FeeRow → List FeeRow
by-day day fees = filter (λ r. nat_le r.day day) fees

sheet-is : (a : Account) (seen : Seen) (fees : List FeeRow) (issued : List IssuedRow) (issue : ℕ) (c : Cycle) (b : Book) → sheet_in a seen fees issued issue c b ≡ sheet-by a seen issued issue c b (by-day issue fees) (rate_lines a seen c b) (deferred_lines a seen b)
unfolding sheet_in sheet-by
sheet-is a seen fees issued issue c b = refl

fees-same : (a : Account) (seen : Seen) (fees other : List FeeRow) (issued : List IssuedRow) (issue : ℕ) (c : Cycle) (b : Book) → by-day issue fees ≡ by-day issue other → sheet_in a seen fees issued issue c b ≡ sheet_in a seen other issued issue c b
fees-same a seen fees other issued issue c b e =
    sheet-is a seen fees issued issue c b
    ∙ (ap (λ rows. sheet-by a seen issued issue c b rows (rate_lines a seen c b) (deferred_lines a seen b)) e ∙ sym (sheet-is a seen other issued issue c b))

read-blind : (a : Account) (seen : Seen) (issued : List IssuedRow) (issue : ℕ) (c : Cycle) (b : Book) (fees : List FeeRow) (rates : List RateLine) (lines : List DeferredLine)
    → sheet-by a seen issued issue c b fees rates lines ≡ sheet-by a (without_index seen) issued issue c b fees rates lines
unfolding sheet-by
read-blind a seen issued issue c b fees rates lines = refl

seen-blind : (a : Account) → a.variable ≡ false → (seen : Seen) (fees : List FeeRow) (issued : List IssuedRow) (issue : ℕ) (c : Cycle) (b : Book) → sheet_in a seen fees issued issue c b ≡ sheet_in a (without_index seen) fees issued issue c b
seen-blind a fixed seen fees issued issue c b =
    sheet-is a seen fees issued issue c b
    ∙ (ap (λ rates. sheet-by a seen issued issue c b (by-day issue fees) rates (deferred_lines a seen b)) (rates-blind a fixed seen c b)
    ∙ (ap (λ lines. sheet-by a seen issued issue c b (by-day issue fees) (rate_lines a (without_index seen) c b) lines) (deferred-blind a seen b)
    ∙ (read-blind a seen issued issue c b (by-day issue fees) (rate_lines a (without_index seen) c b) (deferred_lines a (without_index seen) b) ∙ sym (sheet-is a (without_index seen) fees issued issue c b))))

-- ---- what may be seen on the closing
module _ (history later : List Kept) (issued : List IssuedRow) (shared other : SharedRows) (day : ℕ) (h : HistoriesAgree day shared other history later) where
  abbrev now : Seen
  now = seen_on (anchor_of later) other later issued day

  abbrev was : Seen
  was = seen_on (anchor_of history) shared history issued day

  same-but-index : without_index now ≡ without_index was
  same-but-index = let posts = h.posts in let fees = h.fees in cc

  same-seen : is_variable history ≡ true → now ≡ was
  same-seen follows = let posts = h.posts in let fees = h.fees in let index = h.index follows in cc

  sheets-by : (v : Bool) → is_variable history ≡ v → (fees : List FeeRow) (issue : ℕ) (c : Cycle) (b : Book) → sheet_in (account_of history) now fees issued issue c b ≡ sheet_in (account_of history) was fees issued issue c b
  sheets-by true follows fees issue c b = ap (λ s. sheet_in (account_of history) s fees issued issue c b) (same-seen follows)
  sheets-by false fixed fees issue c b =
      seen-blind (account_of history) fixed now fees issued issue c b
      ∙ (ap (λ s. sheet_in (account_of history) s fees issued issue c b) same-but-index ∙ sym (seen-blind (account_of history) fixed was fees issued issue c b))

-- the sheet of a cycle, where what is folded agrees up to its closing, and the fee rows up to the day of issue
pub sheet-agrees : (history later : List Kept) (issued : List IssuedRow) (shared other : SharedRows) (issue : ℕ) (c : Cycle) → HistoriesAgree c.closing shared other history later → fees_up_to issue other ≡ fees_up_to issue shared
    → sheet_of later issued other issue c ≡ sheet_of history issued shared issue c
unfolding sheet_of
sheet-agrees history later issued shared other issue c h fees =
    let books : book later issued other c.closing ≡ book history issued shared c.closing = past_is_enough c.closing shared other history later issued h c.closing (omega arith) in
    let account : account_of later ≡ account_of history = (let a = h.anchor in let t = h.terms in let v = h.variable in cc) in
    ap (λ a. sheet_in a (seen_on (anchor_of later) other later issued c.closing) other.fees issued issue c (book later issued other c.closing)) account
    ∙ (ap (λ b. sheet_in (account_of history) (seen_on (anchor_of later) other later issued c.closing) other.fees issued issue c b) books
    ∙ (fees-same (account_of history) (seen_on (anchor_of later) other later issued c.closing) other.fees shared.fees issued issue c (book history issued shared c.closing) fees
    ∙ sheets-by history later issued shared other c.closing h (is_variable history) refl shared.fees issue c (book history issued shared c.closing)))
