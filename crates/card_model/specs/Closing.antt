-- The closing of a cycle: interest, the minimum payment, and the grace amount (12 CFR 1026.7(b), .14(b), .54).
use Rattle.std.specs.Prelude.{ℕ, ◌+◌, ◌-◌, Bool, false, ◌&&◌, ◌==◌, nat_lt, if◌then◌else◌, min, max, List, [], ◌∷◌, ◌++◌, length, Option, Some, None, ℤ, pos, ◌-ℤ◌}
use Rattle.std.specs.List.{filter_map, sum_by}
use Rattle.card_events.specs.Billing.{due_after}
use Rattle.card_events.specs.Money.{floor_or_portion}
use Rattle.card_model.specs.Books.{Account, Book, all_segments, present_cycle, with_all_entries, with_cycle, with_entries}
use Rattle.card_model.specs.Caps.{capped_by, issued_grace, issued_interest, issued_minimum}
use Rattle.card_model.specs.Cycles.{Amounts, Cycle, IssuedRow, Seen, amount_at, amounts_sum, last_cycle}
use Rattle.card_model.specs.Effects.{closing_from}
use Rattle.card_model.specs.Entries.{at_least_zero, balance, credit_balance, debit, owed, owing}
use Rattle.card_model.specs.Fees.{fees_in, fees_sum}
use Rattle.card_model.specs.Interest.{average_balance, cycle_interest, deferred_interest, purchase_case}
use Rattle.card_model.specs.Payments.{past_due}
use Rattle.card_model.specs.Segments.{SegmentTerms, is_sort}
use Rattle.card_model.specs.declared.entry.Entry.{Entry}
use Rattle.card_model.specs.declared.entry.EntryKind.TheVariants as kind
use Rattle.card_model.specs.declared.entry.Note.{Note}
use Rattle.card_model.specs.declared.grace.GraceCase.{GraceCase}
use Rattle.card_model.specs.declared.segment.Sort.TheVariants as sort

-- ---- interest
-- what a closing has posted so far, by segment, and the book with it
pub record Posting : Type 0 where
  pub amounts : Amounts
  pub book : Book

-- the note of today's interest, which is no post's
abbrev pub interest_note : Seen → Note
interest_note seen = record { day = seen.day; kind = kind.Interest; post = 0 }

-- interest, lowered so that it raises no balance above 10^13 cents
abbrev pub within_limit : ℕ → ℕ → ℕ
within_limit balance cents = min cents (10000000000000 - balance)

-- an amount for a segment, within the limit and what an issued row leaves
abbrev pub posted_for : Option IssuedRow → (Book → SegmentTerms → ℕ) → SegmentTerms → Posting → ℕ
posted_for issued amount g p = capped_by (issued_interest g.id p.amounts) issued (within_limit (owing g.id p.book.entries) (amount p.book g))

-- cents of interest debited to their segment, whatever of them a credit balance bears
abbrev pub post_one : Seen → SegmentTerms → ℕ → Posting → Posting
post_one seen g cents p =
    record {
      amounts = p.amounts ++ (g.id, cents) ∷ [];
      book = with_entries (debit (interest_note seen) g.id cents (credit_balance p.book.entries)) p.book;
    }

-- amounts for all segments, in turn
unfoldable pub post_interest : Option IssuedRow → Seen → (Book → SegmentTerms → ℕ) → List SegmentTerms → Posting → Posting
post_interest issued seen amount [] p = p
post_interest issued seen amount (g ∷ gs) p = post_interest issued seen amount gs (post_one seen g (posted_for issued amount g p) p)

-- the first day of the cycle that closes
abbrev pub first_of : Account → Option Cycle → ℕ
first_of a None = a.anchor.opened
first_of a (Some c) = c.closing + 1

-- the first day of the cycle that the book is in
abbrev pub first_day_of : Account → Book → ℕ
first_day_of a b = first_of a (last_cycle b.cycles)

-- how purchases bear interest in that cycle
abbrev pub purchase_case_in : Seen → Book → GraceCase
purchase_case_in seen b = purchase_case seen b.cycles (last_cycle b.cycles)

-- first the interest of each segment, then that of each Deferred whose period ends today
unfoldable pub closing_interest : Option IssuedRow → Account → Seen → Book → Posting
closing_interest issued a seen b =
    post_interest issued seen (deferred_interest seen) (all_segments a seen)
    (post_interest issued seen (cycle_interest a seen (purchase_case_in seen b) (first_day_of a b)) (all_segments a seen)
    (record { amounts = []; book = b }))

-- ---- the minimum payment and the grace amount. b is the book before interest, p what the closing posted
-- what is owed, less what is held
abbrev pub net_balance : List Entry → ℤ
net_balance entries = owed entries -ℤ balance 1 entries

-- of a balance above 0: the floor, or portion and charges where that is more, and what is past due, at most the balance
abbrev pub minimum_of : ℤ → ℕ → ℕ → ℕ → ℕ → ℕ
minimum_of (pos nb) floor pct charges past_due = min nb (floor_or_portion nb floor pct charges + past_due)
minimum_of _ floor pct charges past_due = 0

-- The greater of the floor and of a portion of the balance with the cycle's interest and fees, and what is past due;
-- not above the balance
unfoldable pub minimum_payment : Account → Seen → Book → Posting → ℕ
minimum_payment a seen b p =
    minimum_of (net_balance p.book.entries) a.terms.floor a.terms.pct
    (amounts_sum p.amounts + fees_sum (fees_in (present_cycle b) b.fees))
    (past_due seen seen.day (last_cycle b.cycles))

-- a plan's end that lies after a day
abbrev pub ends_after : ℕ → Option ℕ → Bool
ends_after day None = false
ends_after day (Some end) = nat_lt day end

-- the balances of Deferred whose periods end after the next closing
abbrev pub deferred_later : Account → Seen → Book → ℕ
deferred_later a seen b =
    sum_by (λ g. if is_sort sort.Deferred g.sort && ends_after (closing_from a (seen.day + 1)) g.ends then owing g.id b.entries else 0) (all_segments a seen)

-- what has to be paid by the due date to keep the grace period, not below 0 (12 CFR 1026.54(a)(1))
unfoldable pub grace_amount : Account → Seen → Posting → ℕ
grace_amount a seen p = at_least_zero (net_balance p.book.entries -ℤ pos (deferred_later a seen p.book))

-- ---- the closed cycle
-- the amount of a segment, none for 0
abbrev pub nonzero : (SegmentTerms → ℕ) → SegmentTerms → Option (ℕ × ℕ)
nonzero amount g = if amount g == 0 then None else Some (g.id, amount g)

-- amounts by segment, without those of 0
abbrev pub by_segment : (SegmentTerms → ℕ) → List SegmentTerms → Amounts
by_segment amount gs = filter_map (nonzero amount) gs

-- what was owed at the closing before, 0 for the first cycle
abbrev pub previous_of : Option Cycle → ℤ
previous_of None = pos 0
previous_of (Some c) = c.new_balance

-- the record of the cycle that closes today. What is held is never below 0 on the lists that a desk accepts
abbrev pub closed_cycle : Option IssuedRow → Account → Seen → Book → Posting → Cycle
closed_cycle issued a seen b p =
    record {
      number = present_cycle b;
      first = first_day_of a b;
      closing = seen.day;
      due = due_after a.anchor.close_day seen.day;
      previous = previous_of (last_cycle b.cycles);
      new_balance = owed p.book.entries;
      held = owing 1 p.book.entries;
      interest = by_segment (λ g. amount_at g.id p.amounts) (all_segments a seen);
      average = by_segment (average_balance seen b (purchase_case_in seen b) (first_day_of a b)) (all_segments a seen);
      fees = fees_in (present_cycle b) b.fees;
      minimum = capped_by issued_minimum issued (minimum_payment a seen b p);
      grace_amount = capped_by issued_grace issued (grace_amount a seen p);
      entries = length p.book.entries;
    }

-- a closing: interest is posted, then the cycle is recorded
unfoldable pub close : Option IssuedRow → Account → Seen → Book → Book
close issued a seen b =
    let p = closing_interest issued a seen b in
    with_all_entries p.book.entries (with_cycle (closed_cycle issued a seen b p) b)
