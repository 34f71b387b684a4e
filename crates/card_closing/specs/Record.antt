-- The record of a closed cycle, from what the ledger keeps (12 CFR 1026.7(b), .54(a)(1)). Days are day numbers, amounts cents.
use Rattle.std.specs.Prelude.{ℕ, ◌+◌, ◌-◌, ◌==◌, ◌≤◌, ◌&&◌, if◌then◌else◌, drop, length, List, Option, Some, None, ℤ, pos, ◌-ℤ◌, ◌≤ℤ◌, slice_index_or, unsigned_abs}
use Rattle.std.specs.List.{filter_map, range_with_len, sum_by}
use Rattle.card_closing.specs.Rows.{Rows, average_of}
use Rattle.card_model.specs.Caps.{capped_by}
use Rattle.card_model.specs.Closing.{ends_after, minimum_of}
use Rattle.card_model.specs.Cycles.{Amounts, Cycle, amount_at, amounts_sum}
use Rattle.card_model.specs.Entries.{at_least_zero}
use Rattle.card_model.specs.Fees.{fees_in, fees_sum}
use Rattle.card_model.specs.Segments.{is_sort}
use Rattle.card_model.specs.declared.fee.Fee.{Fee}
use Rattle.card_model.specs.declared.grace.GraceCase.{GraceCase}
use Rattle.card_model.specs.declared.segment.Segment.{Segment}
use Rattle.card_model.specs.declared.segment.Sort.TheVariants as sort
use Rattle.card_segments.specs.Balances.{Balances, total}
use Rattle.card_closing.specs.Interest.{amounts_of}
use Rattle.card_model.specs.Interest.{case_in}
use Rattle.card_closing.specs.Turns.{of_segment}
use Rattle.card_closing.specs.declared.closing.Closing.{Closing}

-- ---- amounts by segment
-- the amount of a segment with its number, none for 0
abbrev pub nonzero_of : (ℕ → ℕ) → ℕ → Option (ℕ × ℕ)
nonzero_of amount s = if amount s == 0 then None else Some (s, amount s)

-- the amounts of so many segments from segment 2 on, without those of 0
unfoldable pub by_number : (ℕ → ℕ) → ℕ → Amounts
by_number amount n = filter_map (nonzero_of amount) (range_with_len 2 n)

-- the average daily balance of a segment's rows
unfoldable pub cycle_average : GraceCase → ℕ → Segment → Rows → ℕ
cycle_average purchase day g rows = average_of (case_in purchase day g) rows

-- those of all segments
abbrev pub averages_of : Closing → Balances → List Rows → Amounts
averages_of c b rows = by_number (of_segment (amounts_of (cycle_average c.purchase c.closing) (drop 2 b.segments) rows)) (length b.balances - 2)

-- no segment was charged more than 10^16 cents
abbrev pub AreSmall : Amounts → Type 0
AreSmall amounts = (s : ℕ) → amount_at s amounts ≤ 10_000_000_000_000_000

-- ---- what the minimum payment and the grace amount are taken of
-- the most cents that a number holds
abbrev pub largest_cents : ℕ
largest_cents = 9_223_372_036_854_775_807

-- the account's terms are in their ranges: the floor isn't below 0, and the part of the balance is at most 10,000 basis points
pub record HasTermsInRange (c : Closing) : Type 0 where
  pub least : pos 0 ≤ℤ c.floor
  pub part : c.pct ≤ 10_000

-- what is owed, less what is held
abbrev pub net_of : Balances → ℤ
net_of b = total b.balances -ℤ slice_index_or b.balances 1 (pos 0)

-- the balance of a Deferred whose period ends after a day
unfoldable pub balance_later : ℕ → Segment → ℤ → ℕ
balance_later day g balance = if is_sort sort.Deferred g.sort && ends_after day g.ends then at_least_zero balance else 0

-- those of all segments together
unfoldable pub deferred_after : ℕ → Balances → ℕ
deferred_after day b = sum_by (λ n. n) (amounts_of (balance_later day) (drop 2 b.segments) (drop 2 b.balances))

-- the minimum payment, at most that of the issued statement
unfoldable pub minimum_by : Closing → Option Cycle → Amounts → List Fee → Balances → ℕ
minimum_by c issued done fees b =
    capped_by (λ s. s.minimum) issued (minimum_of (net_of b) (unsigned_abs c.floor) c.pct (amounts_sum done + fees_sum fees) c.past_due)

-- the grace amount, at most that of the issued statement
unfoldable pub grace_by : Closing → Option Cycle → Balances → ℕ
grace_by c issued b = capped_by (λ s. s.grace_amount) issued (at_least_zero (net_of b -ℤ pos (deferred_after c.next_closing b)))

-- ---- the record
-- of the balances and the count of entries at the end of a closing that charged these amounts
unfoldable pub recorded : Closing → Option Cycle → Amounts → List Rows → List Fee → Balances → ℕ → Cycle
recorded c issued done rows fees b count =
    record {
      number = c.number;
      first = c.first;
      closing = c.closing;
      due = c.due;
      previous = c.previous;
      new_balance = total b.balances;
      held = at_least_zero (slice_index_or b.balances 1 (pos 0));
      interest = by_number (λ s. amount_at s done) (length b.balances - 2);
      average = averages_of c b rows;
      fees = fees_in c.number fees;
      minimum = minimum_by c issued done (fees_in c.number fees) b;
      grace_amount = grace_by c issued b;
      entries = count;
    }
