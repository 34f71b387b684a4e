-- What a sheet is made of stands for the book of the cycle's closing.
use Rattle.std.proofs.Common.{◌≡◌, ℕ, zero, suc, ◌+◌, ◌-◌, ◌<◌, ◌≤◌, ◌^◌, ◌⊎◌, inl, inr, Bool, true, false, cond, ◌&&◌, not, eqb, List, [], ◌∷◌, length, take, refl, sym, ap, ◌∙◌, subst, arith, Option, Some, None, ℤ, pos, negsuc, ◌*◌}
use Rattle.std.specs.Prelude.{nat_abs, nat_le, ◌≤ℤ◌}
use Rattle.std.specs.List.{All, Contains, filter}
use Rattle.std.specs.Option.{option_map_or}
use Rattle.std.proofs.lemmas.Bool.{cases_lt}
use Rattle.std.proofs.lemmas.Int.{ints}
use Rattle.std.proofs.lemmas.List.Elements.{All-nil, All-weaker}
use Rattle.std.proofs.lemmas.List.Sums.{sum_by-cons}
use Rattle.card_bounds.proofs.CountDays.{segments-few}
use Rattle.card_bounds.proofs.CycleAmounts.{amounts_small}
use Rattle.card_bounds.proofs.OnDays.{entries_have_days}
use Rattle.card_bounds.proofs.Whole.{balances_small}
use Rattle.card_bounds.proofs.OnSegments.{entries_have_segments}
use Rattle.card_bounds.specs.Bounds.{IsLimited, moved, moves, most_interest, most_moved}
use Rattle.card_closing.specs.Interest.{statement_of}
use Rattle.card_events.proofs.Cycles.{after_closing, closing_grows}
use Rattle.card_events.specs.Billing.{closing}
use Rattle.card_events.specs.Range.{last_request_day}
use Rattle.card_effects.proofs.DayLaws.{books_of_a_day}
use Rattle.card_effects.specs.Standing.{is_added}
use Rattle.card_events.specs.History.{anchor_of, terms_of}
use Rattle.card_events.specs.Limits.{post_limit}
use Rattle.card_fees.proofs.Days.{opened-before}
use Rattle.card_model.proofs.Calendar.{cycles_are_of_the_calendar, is-anchor}
use Rattle.card_model.proofs.Cuts.{closings_are_cuts}
use Rattle.card_model.proofs.Settled.{book-settled}
use Rattle.card_model.specs.Books.{Book, all_segments}
use Rattle.card_model.specs.Caps.{row_for}
use Rattle.card_model.specs.Closing.{by_segment}
use Rattle.card_model.specs.Cycles.{Amounts, Cycle, IssuedRow, Sheet, amounts_sum}
use Rattle.card_model.specs.Entries.{at_least_zero, balance, is_kind, owing}
use Rattle.card_model.specs.Fees.{fee_cents, fees_in, fees_sum}
use Rattle.card_model.specs.Folds.{book, book_after, cycle_at}
use Rattle.card_model.specs.Laws.{size_of, total}
use Rattle.card_model.specs.Segments.{SegmentTerms, is_over, is_sort, is_deferred_on}
use Rattle.card_model.specs.declared.entry.Entry.{Entry}
use Rattle.card_model.specs.declared.entry.EntryKind.{EntryKind}
use Rattle.card_model.specs.declared.entry.EntryKind.TheVariants as kind
use Rattle.card_model.specs.declared.fee.Fee.{Fee}
use Rattle.card_model.specs.declared.segment.Sort.TheVariants as sort
use Rattle.card_rates.proofs.DayLaws.{rates_of_a_day}
use Rattle.card_rates.specs.RateBooks.{Rates, rate_of, rates_of}
use Rattle.card_statement.proofs.AtClosing.{cycles_stand_at_closing}
use Rattle.card_model.specs.Limits.{balance_limit}
use Rattle.card_statement.proofs.Repayable.{amounts-few, amounts-small}
use Rattle.card_statement.specs.Repayable.{IsRepayable, most_amounts, most_owed}
use Rattle.card_statement.specs.Gathering.{sizes}
use Rattle.card_statement.specs.Laws.{StandsAtClosing}
use Rattle.card_statement.specs.Lines.{AreKeptOf}
use Rattle.card_model.specs.Sheets.{cycle_entries, entries_by, previous_balance}
use Rattle.card_daily.proofs.ClosingDay.{at-count, grows-to}
use Rattle.card_daily.specs.Given.{Given, IsDayOf, IsSound, account_in, book_in, book_on, opened_in, seen_in}
use Rattle.card_dayend.proofs.AtClosing.{none-on}
use Rattle.card_book.proofs.Balances.{each-any}
use Rattle.card_book.proofs.PenaltyFees.{penalty_fees_are_reasonable}
use Rattle.card_book.specs.Stands.{FoldedBook, IsFoldedTo, IsRequestDay, book_through}
use Rattle.card_book.specs.Statements.{IsClosedCycle}

-- ---- the closing of a cycle that is closed on some day
pub stands-of : (g : Given) (c : Cycle) → IsClosedCycle g c → StandsAtClosing g.history g.issued g.shared c
stands-of g c h = cycles_stand_at_closing g.history g.issued g.shared h.day c.number c h.there

-- the number of a cycle is its place
pub closed-on : (g : Given) (day k : ℕ) (c : Cycle) → IsSound g → day ≤ last_request_day → cycle_at k (book_on g day).cycles ≡ Some c → IsClosedCycle g c
closed-on g day k c s l e =
    let days = cycles_are_of_the_calendar.days g.history g.issued g.shared day k c s.opening (omega (arith, l)) e in
    record { day = day; last = l; there = ap (λ n. cycle_at n (book_on g day).cycles) days.number ∙ e }

pub closed-through : (g : Given) (day : Option ℕ) (k : ℕ) (c : Cycle) → IsSound g → IsRequestDay day → cycle_at k (book_through g day).cycles ≡ Some c → IsClosedCycle g c
closed-through g None zero c s l e = let none : None ≡ Some c = e in absurd (cc)
closed-through g None (suc k) c s l e = let none : None ≡ Some c = e in absurd (cc)
closed-through g (Some day) k c s l e = closed-on g day k c s l e

-- no cycle is closed before the opening day
none-early : (g : Given) (day : ℕ) → day + 1 ≤ opened_in g → (book_on g day).cycles ≡ []
unfolding book book_after
none-early g day l =
    let none : day + 1 - opened_in g ≡ 0 = omega (arith, l) in
    ap (λ n. (book_in g n).cycles) none

pub day-of : (g : Given) (c : Cycle) → IsSound g → IsClosedCycle g c → IsDayOf g c.closing
day-of g c s h = by (cases_lt (opened_in g) (h.day + 1))
  where
    here : (book_on g h.day).cycles ≡ [] → IsDayOf g c.closing
    here none =
        let place = at-count c.number (book_on g h.day).cycles c h.there in
        let count = ap (λ (cs : List Cycle). length cs) none in
        absurd (omega (arith, place.0, place.1, count))

    there : opened_in g < h.day + 1 → IsDayOf g c.closing
    there l =
        let a = anchor_of g.history in
        let cs = (book_on g h.day).cycles in
        let place = at-count c.number cs c h.there in
        let last = h.last in
        let days = cycles_are_of_the_calendar.days g.history g.issued g.shared h.day c.number c s.opening (omega (arith, last)) h.there in
        let count = cycles_are_of_the_calendar.count g.history g.issued g.shared h.day in
        let next = after_closing a (is-anchor a s.opening) (h.day + 1) (length cs) (omega (arith, l)) (omega (arith, last)) (sym count ∙ omega arith) in
        let grown = grows-to a c.number (length cs) place.1 in
        let low = opened-before a (c.number - 1) in
        let up = closing_grows a (c.number - 1) in
        let one : suc (c.number - 1) ≡ c.number = omega (arith, place.0) in
        let same = ap (closing a) one in
        let on = days.closing in
        record { opened = omega (arith, low, up, same, on); last = omega (arith, on, grown, next, last) }

    by : (opened_in g < h.day + 1) ⊎ (h.day + 1 ≤ opened_in g) → IsDayOf g c.closing
    by (inl l) = there l
    by (inr l) = here (none-early g h.day l)

-- ---- within the limits
limits : (g : Given) (day : ℕ) → IsSound g → day ≤ last_request_day → IsLimited post_limit g.history g.shared day
limits g day s l = let o = s.opening.first in record { count = s.accepted.count; cents = s.accepted.cents; fees = s.fees; days = omega (arith, o, l) }

pub entries-small : (g : Given) (c : Cycle) → IsSound g → IsDayOf g c.closing → StandsAtClosing g.history g.issued g.shared c → sizes (cycle_entries c (book_on g c.closing)) ≤ 10 ^ 17
entries-small g c s d h = h.small post_limit (limits g c.closing s d.last) (omega arith) s.segments

-- what stood at the closing before a cycle is of the days before it
pub earlier-days : (g : Given) (c : Cycle) → IsSound g → IsDayOf g c.closing → StandsAtClosing g.history g.issued g.shared c
    → All (λ e. e.day < c.first) (take (entries_by (cycle_at (c.number - 1) (book_on g c.closing).cycles)) (book_on g c.closing).entries)
earlier-days g c s d h = by (cycle_at (c.number - 1) at.cycles) refl
  where
    at : Book
    at = book_on g c.closing

    by : (o : Option Cycle) → cycle_at (c.number - 1) at.cycles ≡ o → All (λ e. e.day < c.first) (take (entries_by o) at.entries)
    by None q = All-nil (λ (e : Entry). e.day < c.first)
    by (Some p) q =
        let last = d.last in
        let calendar = cycles_are_of_the_calendar.days g.history g.issued g.shared c.closing in
        let own = calendar c.number c s.opening (omega (arith, last)) h.there in
        let before = calendar (c.number - 1) p s.opening (omega (arith, last)) q in
        let first = own.first in
        let closing = before.closing in
        let cut = closings_are_cuts g.history g.issued g.shared c.closing (c.number - 1) p q in
        let dated = entries_have_days.days g.history g.issued g.shared p.closing in
        subst (All (λ (e : Entry). e.day < c.first)) (sym cut.entries)
        (All-weaker (λ (e : Entry). e.day ≤ p.closing) (λ (e : Entry). e.day < c.first) (λ e l. omega (arith, l, first, closing)) (book_on g p.closing).entries dated)

pub interest-small : (g : Given) (day : ℕ) → IsSound g → All (λ c. amounts_sum c.interest ≤ 10 ^ 17) (book_on g day).cycles
interest-small g day s =
    All-weaker (λ (c : Cycle). amounts_sum c.interest ≤ most_interest) (λ (c : Cycle). amounts_sum c.interest ≤ 10 ^ 17) (λ c l. omega (arith, l)) (book_on g day).cycles
    (amounts_small.interest g.history g.issued g.shared day s.segments)

-- the fees of a cycle are among all fees, which are moved
part-of : (n : ℕ) (fs : List Fee) → fees_sum (fees_in n fs) ≤ fees_sum fs
part-of n [] = omega arith
part-of n (f ∷ fs) = by (eqb f.cycle n) (part-of n fs)
  where
    by : (t : Bool) → fees_sum (fees_in n fs) ≤ fees_sum fs → fees_sum (cond t (f ∷ fees_in n fs) (fees_in n fs)) ≤ fees_sum (f ∷ fs)
    by true h = let a = sum_by-cons fee_cents f (fees_in n fs) in let b = sum_by-cons fee_cents f fs in omega (arith, a, b, h)
    by false h = let b = sum_by-cons fee_cents f fs in omega (arith, b, h)

fees-moved : (es : List Entry) → total kind.Fee es ≤ moved es
unfolding total moved
fees-moved [] = omega arith
fees-moved (e ∷ es) =
    let a = sum_by-cons (size_of kind.Fee) e es in
    let b = sum_by-cons moves e es in
    let one = by e.kind (nat_abs e.cents) in
    let h = fees-moved es in
    omega (arith, a, b, one, h)
  where
    by : (k : EntryKind) (x : ℕ) → cond (is_kind kind.Fee k) x 0 ≤ cond (is_kind kind.Interest k) 0 x
    by kind.Charge x = omega arith
    by kind.Credit x = omega arith
    by kind.Payment x = omega arith
    by kind.Return x = omega arith
    by kind.Refund x = omega arith
    by kind.Fee x = omega arith
    by kind.Interest x = omega arith
    by kind.Hold x = omega arith

little : (part all entered m limit : ℕ) → part ≤ all → entered ≡ all → entered ≤ m → m ≤ limit → limit ≤ 500_000_000_000_000 → part ≤ 10 ^ 17
little part all entered m limit a b c d e = omega (arith, a, b, c, d, e)

pub fees-small : (g : Given) (day : ℕ) → IsSound g → day ≤ last_request_day → All (λ c. fees_sum c.fees ≤ 10 ^ 17) (book_on g day).cycles
unfolding book
fees-small g day s l =
    let b = book_on g day in
    let settled = book-settled g.issued (account_in g) (seen_in g) (day + 1 - opened_in g) in
    let entered = (penalty_fees_are_reasonable g.history g.issued g.shared day).entered in
    let bound = amounts_small.moves post_limit g.history g.issued g.shared day (limits g day s l) in
    All-weaker (λ (c : Cycle). c.fees ≡ fees_in c.number b.fees) (λ (c : Cycle). fees_sum c.fees ≤ 10 ^ 17)
    (λ c is. subst (λ fs. fees_sum fs ≤ 10 ^ 17) (sym is)
    (little (fees_sum (fees_in c.number b.fees)) (fees_sum b.fees) (total kind.Fee b.entries) (moved b.entries) (most_moved post_limit) (part-of c.number b.fees) entered (fees-moved b.entries) bound (omega arith)))
    b.cycles settled.fees

-- ---- what is kept stands for the book
pub kept-of : (g : Given) (day : ℕ) (f : FoldedBook) → IsSound g → IsDayOf g day → IsFoldedTo g day f
    → AreKeptOf g.shared.index (is_added day) (account_in g) (seen_in g day) (book_on g day) f.rates f.balances f.accruals
kept-of g day f s d h =
    let b = book_on g day in
    let all : (rates_of g.shared.holidays g.history []).segments ≡ f.rates.segments = ap (λ (r : Rates). r.segments) (sym h.rates) in
    let lies = entries_have_segments.days g.history g.issued g.shared day day (omega arith) in
    record {
      seen_ones = books_of_a_day.those g.history g.issued g.shared day d.opened ∙ ap (filter (is_added day)) all;
      others = λ t there e. none-on g day b t d.opened lies (subst (λ (ts : List SegmentTerms). Contains ts t) (sym all) there) e;
      rates = λ t. ap (λ (r : Rates). rate_of g.shared.index r day t) h.rates ∙ rates_of_a_day.any g.history g.issued g.shared b day day t (omega arith);
      sums = λ n. each-any b.entries f.balances n h.balances;
      accrued = λ t there e.
          h.accruals.sums t there (and-first t day e) (and-last t day e);
    }
  where
    and-first : (t : SegmentTerms) (day : ℕ) → is_deferred_on day t ≡ true → is_sort sort.Deferred t.sort ≡ true
    and-first t day e = by (is_sort sort.Deferred t.sort) e
      where
        by : (b : Bool) → (b && nat_le t.begins day && not (is_over t.ends day)) ≡ true → b ≡ true
        by true e = refl
        by false e = cc

    and-last : (t : SegmentTerms) (day : ℕ) → is_deferred_on day t ≡ true → is_over t.ends day ≡ false
    and-last t day e = by (is_sort sort.Deferred t.sort) (nat_le t.begins day) (is_over t.ends day) e
      where
        by : (a b o : Bool) → (a && b && not o) ≡ true → o ≡ false
        by a b false e = refl
        by true true true e = cc
        by true false true e = cc
        by false b true e = cc

-- ---- the previous balance
pub previous-is : (issued : List IssuedRow) (c : Cycle) (owed : ℤ) → owed ≡ c.previous
    → option_map_or (λ (d : Cycle). d.new_balance) (statement_of (row_for (c.number - 1) issued)) owed ≡ previous_balance issued c
previous-is issued c owed e = by (row_for (c.number - 1) issued)
  where
    by : (o : Option IssuedRow) → option_map_or (λ (d : Cycle). d.new_balance) (statement_of o) owed ≡ option_map_or (λ (r : IssuedRow). r.statement.new_balance) o c.previous
    by None = e
    by (Some r) = refl

-- ---- the sheet
-- two sheets with equal fields
pub record AreAlike (s t : Sheet) : Type 0 where
  pub due_payment : s.due_payment ≡ t.due_payment
  pub previous : s.previous ≡ t.previous
  pub corrections : s.corrections ≡ t.corrections
  pub moves : s.moves ≡ t.moves
  pub fees_year : s.fees_year ≡ t.fees_year
  pub interest_year : s.interest_year ≡ t.interest_year
  pub rates : s.rates ≡ t.rates
  pub deferred : s.deferred ≡ t.deferred
  pub late_up_to : s.late_up_to ≡ t.late_up_to
  pub penalty : s.penalty ≡ t.penalty
  pub closing : s.closing ≡ t.closing
  pub floor : s.floor ≡ t.floor
  pub pct : s.pct ≡ t.pct

pub alike-same : (s t : Sheet) → AreAlike s t → s ≡ t
alike-same s t h =
    rw (h.due_payment, h.previous, h.corrections, h.moves, h.fees_year, h.interest_year, h.rates, h.deferred, h.late_up_to, h.penalty, h.closing, h.floor, h.pct) refl

-- ---- what can be repaid
owing-small : (z : ℤ) → z ≤ℤ pos 999999999999999 → at_least_zero z ≤ balance_limit
owing-small (pos m) l = omega (arith, ints, l)
owing-small (negsuc m) l = omega arith

-- at most 62 balances of at most 10^15 cents each, and the terms within their ranges
pub repayable : (g : Given) (day : ℕ) → IsSound g → day ≤ last_request_day → (closing : Amounts) (floor : ℤ) (pct : ℕ)
    → closing ≡ by_segment (λ t. owing t.id (book_on g day).entries) (all_segments (account_in g) (seen_in g day)) → floor ≡ pos (terms_of g.history).floor → pct ≡ (terms_of g.history).pct
    → IsRepayable closing floor pct
repayable g day s l closing floor pct c f p =
    let gs = all_segments (account_in g) (seen_in g day) in
    let amount : SegmentTerms → ℕ = λ t. owing t.id (book_on g day).entries in
    let few = segments-few (account_in g) (anchor_of g.history) g.shared g.history g.issued day s.segments in
    let count = amounts-few amount gs in
    let small = balances_small post_limit g.history g.issued g.shared day (limits g day s l) (omega arith) in
    let sum = amounts-small amount gs (λ t. owing-small (balance t.id (book_on g day).entries) (small t.id).1) in
    let terms = s.accepted.terms in
    let floor_range = terms.floor in
    let pct_range = terms.pct in
    record {
      few = subst (λ (x : Amounts). length x ≤ most_amounts) (sym c) (omega (arith, few, count));
      small = subst (λ (x : Amounts). amounts_sum x ≤ most_owed) (sym c) (most (length gs) (amounts_sum (by_segment amount gs)) few sum);
      floor_low = rw f (omega (arith, ints));
      floor_high = rw f (omega (arith, ints, floor_range));
      part = rw p pct_range;
    }
  where
    most : (n x : ℕ) → n ≤ 62 → x ≤ n * balance_limit → x ≤ most_owed
    most n x a b = omega (arith, a, b)
