-- The interest of a segment (12 CFR 1026.14(b), .54): balances of days, what of them bears interest, and their sums.
use Rattle.std.specs.Prelude.{ℕ, ◌+◌, ◌-◌, ◌*◌, ◌/◌, Bool, ◌&&◌, ◌||◌, not, ◌==◌, nat_le, nat_lt, if◌then◌else◌, List, Option, Some, None}
use Rattle.std.specs.List.{range_with_len, sum_by}
use Rattle.std.specs.Option.{option_map}
use Rattle.card_events.specs.History.{CorrectedPost}
use Rattle.card_events.specs.Money.{daily, interest}
use Rattle.card_model.specs.Books.{Account, Book, rate_in}
use Rattle.card_model.specs.Cycles.{Cycle, Seen}
use Rattle.card_model.specs.Effects.{size}
use Rattle.card_model.specs.Entries.{at_least_zero, is_kind, owing, sum_of}
use Rattle.card_model.specs.Payments.{due_cycle_of, is_paid, is_paid_if_any, is_returned}
use Rattle.card_model.specs.Segments.{SegmentTerms, is_deferred_in, is_deferred_on, is_over, is_sort, kept_segment, last_that}
use Rattle.card_model.specs.declared.due_cycle.DueCycle.{DueCycle}
use Rattle.card_model.specs.declared.entry.Entry.{Entry}
use Rattle.card_model.specs.declared.entry.EntryKind.{EntryKind}
use Rattle.card_model.specs.declared.entry.EntryKind.TheVariants as kind
use Rattle.card_model.specs.declared.grace.GraceCase.{GraceCase}
use Rattle.card_model.specs.declared.grace.GraceCase.TheVariants as case
use Rattle.card_model.specs.declared.segment.Segment.{Segment}
use Rattle.card_model.specs.declared.segment.Sort.TheVariants as sort

-- ---- the balance of a day
-- an entry that the row of a day counts: of an earlier day, or of the day and no interest
abbrev pub is_in_row : ℕ → ℕ → Entry → Bool
is_in_row s day e = (e.segment == s) && (nat_lt e.day day || ((e.day == day) && not (is_kind kind.Interest e.kind)))

-- the balance in a segment's row of a day
unfoldable pub row : List Entry → ℕ → ℕ → ℕ
row entries s day = at_least_zero (sum_of (is_in_row s day) entries)

-- what is noted of an entry of a credit, or of a payment that isn't among the returned ones
abbrev pub repays : (ℕ → Bool) → EntryKind → ℕ → Bool
repays returned k post = is_kind kind.Credit k || (is_kind kind.Payment k && not (returned post))

-- an entry of a credit, or of a payment that wasn't returned by today
abbrev pub is_repayment : Seen → Entry → Bool
is_repayment seen e = repays (is_returned seen.posts seen.day) e.kind e.post

-- what payments and credits brought to a segment on the days after one, up to a due date
abbrev pub repaid_after : Seen → List Entry → ℕ → ℕ → ℕ → ℕ
repaid_after seen entries s day due =
    size (sum_of (λ e. (e.segment == s) && is_repayment seen e && nat_lt day e.day && nat_le e.day due) entries)

-- ---- what bears interest (12 CFR 1026.54(a)(1))
-- the cycle whose number is one less
abbrev pub cycle_before : List Cycle → Cycle → Option Cycle
cycle_before cycles c = last_that (λ d. d.number + 1 == c.number) cycles

-- Purchases of a cycle, after the last statement and the one before it: none bears interest where the last statement was paid under a
-- grace period; where it wasn't, what was repaid by its due date bears none; without a grace period all does
abbrev pub case_after : List CorrectedPost → Option DueCycle → Option DueCycle → GraceCase
case_after posts before None = case.None
case_after posts before (Some c) = if is_paid_if_any posts before then (if is_paid posts c then case.None else case.Lowered c.due) else case.Plain

-- those of the present cycle, at its closing
abbrev pub purchase_case : Seen → List Cycle → Option Cycle → GraceCase
purchase_case seen cycles None = case.None
purchase_case seen cycles (Some c) = case_after seen.posts (option_map (due_cycle_of seen.issued) (cycle_before cycles c)) (Some (due_cycle_of seen.issued c))

-- a segment on a day, where purchases bear interest in this way. A Deferred in its period bears none
abbrev pub case_in : GraceCase → ℕ → Segment → GraceCase
case_in purchase day s = if is_sort sort.Purchase s.sort then purchase else (if is_deferred_in day s then case.None else case.Plain)

-- the same of a segment with its terms
abbrev pub case_of : GraceCase → ℕ → SegmentTerms → GraceCase
case_of purchase day g = case_in purchase day (kept_segment g)

-- the balance of a day that bears interest
abbrev pub charged : GraceCase → Seen → List Entry → ℕ → ℕ → ℕ
charged case.None seen entries s day = 0
charged (case.Lowered due) seen entries s day = row entries s day - repaid_after seen entries s day due
charged case.Plain seen entries s day = row entries s day

-- ---- sums over the days of a cycle
-- the days from one to today
abbrev pub days_from : Seen → ℕ → List ℕ
days_from seen first = range_with_len first (seen.day + 1 - first)

-- the balance of a segment that bears interest on a day
abbrev pub charged_on : Seen → Book → GraceCase → SegmentTerms → ℕ → ℕ
charged_on seen b purchase g day = charged (case_of purchase day g) seen b.entries g.id day

-- the sum of balance times daily rate
unfoldable pub interest_sum : Account → Seen → Book → GraceCase → ℕ → SegmentTerms → ℕ
interest_sum a seen b purchase first g =
    sum_by (λ day. charged_on seen b purchase g day * daily (rate_in a seen b day g)) (days_from seen first)

-- the interest of a segment in the cycle that began on a day
abbrev pub cycle_interest : Account → Seen → GraceCase → ℕ → Book → SegmentTerms → ℕ
cycle_interest a seen purchase first b g = interest (interest_sum a seen b purchase first g)

-- a sum divided by a count, half up, and 0 by none
abbrev pub half_up : ℕ → ℕ → ℕ
half_up total count = if count == 0 then 0 else (2 * total + count) / (2 * count)

-- the average daily balance of a segment: of the balances that bear interest, over all days of the cycle
unfoldable pub average_balance : Seen → Book → GraceCase → ℕ → SegmentTerms → ℕ
average_balance seen b purchase first g =
    half_up (sum_by (charged_on seen b purchase g) (days_from seen first)) (seen.day + 1 - first)

-- ---- deferred interest
-- the sum of balance times the plan's daily rate, over the days of the period up to today
unfoldable pub accrual : Seen → Book → SegmentTerms → ℕ
accrual seen b g = sum_by (λ day. row b.entries g.id day * daily g.rate) (days_from seen g.begins)

-- a Deferred whose period ends today
abbrev pub ends_today : Seen → SegmentTerms → Bool
ends_today seen g = is_deferred_on seen.day g && is_over g.ends (seen.day + 1)

-- what it is charged then: the whole accrual, or nothing where its balance is 0
abbrev pub deferred_interest : Seen → Book → SegmentTerms → ℕ
deferred_interest seen b g =
    let accrued = interest (accrual seen b g) in
    if ends_today seen g && nat_lt 0 (owing g.id b.entries) then accrued else 0
