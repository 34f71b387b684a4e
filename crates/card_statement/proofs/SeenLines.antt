-- The lines that are read from what is kept are those of the book.
use Rattle.std.proofs.Common.{◌≡◌, ℕ, zero, suc, ◌+◌, ◌-◌, ◌<◌, ◌≤◌, Bool, true, false, cond, ◌&&◌, ◌||◌, not, eqb, leb, ltb, List, [], ◌∷◌, ◌++◌, refl, sym, ap, ◌∙◌, subst, arith, append-nil, Option, Some, None, ℤ, pos, negsuc, ◌+ℤ◌, ◌-ℤ◌, get_or}
use Rattle.std.specs.Prelude.{neg_ℤ}
use Rattle.std.specs.List.{All, Contains, cons_option, filter, filter_map, list_any, range_with_len, sum_by}
use Rattle.std.proofs.lemmas.Bool.Decides.{nat_tests}
use Rattle.std.proofs.lemmas.Int.{ints}
use Rattle.std.proofs.lemmas.List.Elements.{All-filter}
use Rattle.std.proofs.lemmas.List.Sums.{sum_by-cons}
use Rattle.card_bounds.proofs.OnSegments.{entries_have_segments}
use Rattle.card_closing.proofs.Bridge.{later-in}
use Rattle.card_events.specs.Money.{interest}
use Rattle.card_closing.specs.Accruals.{Accrued}
use Rattle.card_events.specs.SharedRows.{IndexRow}
use Rattle.card_model.specs.Books.{Account, Book, all_segments, rate_in}
use Rattle.card_model.specs.Closing.{nonzero}
use Rattle.card_model.specs.Cycles.{Cycle, Seen}
use Rattle.card_model.specs.Entries.{at_least_zero, balance, owing, sum_of}
use Rattle.card_model.specs.Interest.{accrual}
use Rattle.card_model.specs.Segments.{SegmentTerms, is_deferred_on, is_over, is_sort}
use Rattle.card_model.specs.declared.entry.Entry.{Entry}
use Rattle.card_model.specs.declared.segment.Sort.TheVariants as sort
use Rattle.card_rates.specs.RateBooks.{Rates, rate_of}
use Rattle.card_statement.specs.Lines.{AreKeptOf, LinesAreOfTheBook, entries_on, is_owed_on, kept_accrual, kept_amounts, kept_deferred_line, kept_deferred_lines, kept_line, kept_owing, kept_rate_line, kept_rate_lines, lowered, lowered_through, raised, raised_through, was_owed}
use Rattle.card_model.specs.Sheets.{deferred_line, deferred_lines, end_of, had_balance, owing_on, rate_line, rate_lines}
use Rattle.card_model.specs.declared.lines.DeferredLine.{DeferredLine}
use Rattle.card_model.specs.declared.lines.RateLine.{RateLine}

-- ---- tests
and-none : (t u : Bool) → u ≡ false → (t && u) ≡ false
and-none true u e = e
and-none false u e = refl

-- a segment without an end is in no period
open-ended : (s t : Bool) → (s && t && not true) ≡ false
open-ended true true = refl
open-ended true false = refl
open-ended false t = refl

not-deferred : (day : ℕ) (g : SegmentTerms) → None ≡ g.ends → is_deferred_on day g ≡ false
not-deferred day g e = subst (λ (o : Option ℕ). (is_sort sort.Deferred g.sort && leb g.begins day && not (is_over o day)) ≡ false) e (open-ended (is_sort sort.Deferred g.sort) (leb g.begins day))

pub no-period : (day : ℕ) (balances : List ℤ) (accruals : List Accrued) (g : SegmentTerms) (lines : List DeferredLine) → g.ends ≡ None
    → lines ≡ lines ++ cons_option (kept_deferred_line day balances accruals g) []
unfolding kept_deferred_line
no-period day balances accruals g lines e =
    let none = not-deferred day g (sym e) in
    rw none (sym (append-nil lines))

-- ---- what was owed on a day
parts : (z : ℤ) → z ≡ pos (at_least_zero z) -ℤ pos (at_least_zero (neg_ℤ z))
parts (pos zero) = refl
parts (pos (suc n)) = omega (arith, ints)
parts (negsuc n) = omega (arith, ints)

-- one entry more, where t says whether it is on the segment and u whether it is of a day up to this one
one-more : (x z : ℤ) (p n r l : ℕ) → x ≡ pos p -ℤ pos n → z ≡ pos r -ℤ pos l → x +ℤ z ≡ pos (p + r) -ℤ pos (n + l)
one-more x z p n r l e h = omega (arith, ints, e, h)

by-tests : (t u : Bool) (x z : ℤ) (r l : ℕ) → z ≡ pos r -ℤ pos l
    → cond u (cond t x (pos 0) +ℤ z) z ≡ pos (cond t (cond u (at_least_zero x) 0 + r) r) -ℤ pos (cond t (cond u (at_least_zero (neg_ℤ x)) 0 + l) l)
by-tests true true x z r l h = one-more x z (at_least_zero x) (at_least_zero (neg_ℤ x)) r l (parts x) h
by-tests true false x z r l h = omega (arith, ints, h)
by-tests false true x z r l h = omega (arith, ints, h)
by-tests false false x z r l h = h

sum-first : (s day : ℕ) (e : Entry) (es : List Entry) → sum_of (λ e. eqb e.segment s) (filter (λ e. leb e.day day) (e ∷ es))
    ≡ cond (leb e.day day) (cond (eqb e.segment s) e.cents (pos 0) +ℤ sum_of (λ e. eqb e.segment s) (filter (λ e. leb e.day day) es)) (sum_of (λ e. eqb e.segment s) (filter (λ e. leb e.day day) es))
sum-first s day e es = by (leb e.day day) (filter (λ e. leb e.day day) es)
  where
    by : (u : Bool) (fs : List Entry) → sum_of (λ e. eqb e.segment s) (cond u (e ∷ fs) fs) ≡ cond u (cond (eqb e.segment s) e.cents (pos 0) +ℤ sum_of (λ e. eqb e.segment s) fs) (sum_of (λ e. eqb e.segment s) fs)
    by true fs = refl
    by false fs = refl

part-first : (f : Entry → ℕ) (s : ℕ) (e : Entry) (es : List Entry) → sum_by f (entries_on s (e ∷ es)) ≡ cond (eqb e.segment s) (f e + sum_by f (entries_on s es)) (sum_by f (entries_on s es))
part-first f s e es = by (eqb e.segment s) (entries_on s es)
  where
    by : (t : Bool) (on : List Entry) → sum_by f (cond t (e ∷ on) on) ≡ cond t (f e + sum_by f on) (sum_by f on)
    by true on = sum_by-cons f e on
    by false on = refl

-- the balance at the end of a day is what was raised less what was lowered
signed : (s day : ℕ) (es : List Entry) → sum_of (λ e. eqb e.segment s) (filter (λ e. leb e.day day) es) ≡ pos (sum_by (raised day) (entries_on s es)) -ℤ pos (sum_by (lowered day) (entries_on s es))
signed s day [] = refl
signed s day (e ∷ es) =
    let z = sum_of (λ e. eqb e.segment s) (filter (λ e. leb e.day day) es) in
    let r = sum_by (raised day) (entries_on s es) in
    let l = sum_by (lowered day) (entries_on s es) in
    let up = part-first (raised day) s e es in
    let down = part-first (lowered day) s e es in
    sum-first s day e es
    ∙ (by-tests (eqb e.segment s) (leb e.day day) e.cents z r l (signed s day es)
    ∙ (ap (λ n. pos n -ℤ pos (cond (eqb e.segment s) (lowered day e + l) l)) (sym up) ∙ ap (λ n. pos (sum_by (raised day) (entries_on s (e ∷ es))) -ℤ pos n) (sym down)))

more-than : (r l : ℕ) → ltb l r ≡ ltb 0 (at_least_zero (pos r -ℤ pos l))
more-than r l = by (pos r -ℤ pos l) refl
  where
    by : (d : ℤ) → pos r -ℤ pos l ≡ d → ltb l r ≡ ltb 0 (at_least_zero d)
    by (pos zero) e = let f : r ≤ l = omega (arith, ints, e) in grind (arith, nat_tests)
    by (pos (suc n)) e = let f : l < r = omega (arith, ints, e) in grind (arith, nat_tests)
    by (negsuc n) e = let f : r ≤ l = omega (arith, ints, e) in grind (arith, nat_tests)

pub owed-then : (s day : ℕ) (es : List Entry) → is_owed_on (entries_on s es) day ≡ ltb 0 (owing_on s day es)
unfolding raised_through lowered_through
owed-then s day es =
    more-than (sum_by (raised day) (entries_on s es)) (sum_by (lowered day) (entries_on s es)) ∙ ap (λ z. ltb 0 (at_least_zero z)) (sym (signed s day es))

any-same : (p q : ℕ → Bool) → ((x : ℕ) → p x ≡ q x) → (xs : List ℕ) → list_any p xs ≡ list_any q xs
any-same p q h [] = refl
any-same p q h (x ∷ xs) = ap (λ t. t || list_any p xs) (h x) ∙ ap (λ t. q x || t) (any-same p q h xs)

-- so it was on some day of a cycle
pub was-owed : (first last s : ℕ) (es : List Entry) → was_owed first last (entries_on s es) ≡ had_balance first last es s
unfolding was_owed had_balance
was-owed first last s es = any-same (is_owed_on (entries_on s es)) (λ day. ltb 0 (owing_on s day es)) (λ day. owed-then s day es) (range_with_len first (last + 1 - first))

-- ---- a segment without entries
none-by : (s day : ℕ) (es : List Entry) → All (λ e. eqb e.segment s ≡ false) es → ltb 0 (owing_on s day es) ≡ false
none-by s day es h = ap (λ z. ltb 0 (at_least_zero z)) (entries_have_segments.none (filter (λ e. leb e.day day) es) s (All-filter (λ e. leb e.day day) (λ e. eqb e.segment s ≡ false) es h))

none-owed : (first last s : ℕ) (es : List Entry) → All (λ e. eqb e.segment s ≡ false) es → had_balance first last es s ≡ false
unfolding had_balance
none-owed first last s es h = none (range_with_len first (last + 1 - first))
  where
    none : (xs : List ℕ) → list_any (λ day. ltb 0 (owing_on s day es)) xs ≡ false
    none [] = refl
    none (x ∷ xs) = rw (none-by s x es h) (none xs)

-- ---- all segments, and those that a day sees
seen-lines : {B : Type 0} (f h : SegmentTerms → Option B) (sees : SegmentTerms → Bool) (gs : List SegmentTerms)
    → ((g : SegmentTerms) → Contains gs g → sees g ≡ true → f g ≡ h g) → ((g : SegmentTerms) → Contains gs g → sees g ≡ false → f g ≡ None)
    → filter_map f gs ≡ filter_map h (filter sees gs)
seen-lines f h sees [] k u = refl
seen-lines f h sees (g ∷ gs) k u =
    by (sees g) refl (seen-lines f h sees gs (λ x c. k x (later-in g x gs c)) (λ x c. u x (later-in g x gs c)))
  where
    by : (q : Bool) → sees g ≡ q → filter_map f gs ≡ filter_map h (filter sees gs)
        → cons_option (f g) (filter_map f gs) ≡ filter_map h (cond q (g ∷ filter sees gs) (filter sees gs))
    by true q rest = ap (λ us. cons_option (f g) us) rest ∙ ap (λ o. cons_option o (filter_map h (filter sees gs))) (k g (0, omega arith, refl) q)
    by false q rest = ap (λ o. cons_option o (filter_map f gs)) (u g (0, omega arith, refl) q) ∙ rest

-- ---- the lines of rates
rate-same : (rows : List IndexRow) (a : Account) (seen : Seen) (b : Book) (rated : Rates) (c : Cycle) (g : SegmentTerms) → c.closing ≡ seen.day → rate_of rows rated seen.day g ≡ rate_in a seen b seen.day g
    → kept_rate_line rows rated c b.entries g ≡ rate_line a seen c b g
unfolding kept_rate_line
rate-same rows a seen b rated c g today e =
    let rate : rate_of rows rated c.closing g ≡ rate_in a seen b c.closing g = ap (λ day. rate_of rows rated day g) today ∙ (e ∙ ap (λ day. rate_in a seen b day g) (sym today)) in
    ap (λ t. cond t (Some (kept_line rows rated c g)) None) (was-owed c.first c.closing g.id b.entries)
    ∙ ap (λ n. cond (had_balance c.first c.closing b.entries g.id) (Some (with_rate n)) None) rate
  where
    with_rate : ℕ → RateLine
    with_rate n = record { segment = g.id; sort = g.sort; rate = n; average = (kept_line rows rated c g).average; interest = (kept_line rows rated c g).interest }

rate-none : (rows : List IndexRow) (rated : Rates) (c : Cycle) (es : List Entry) (g : SegmentTerms) → All (λ e. eqb e.segment g.id ≡ false) es → kept_rate_line rows rated c es g ≡ None
unfolding kept_rate_line
rate-none rows rated c es g h = ap (λ t. cond t (Some (kept_line rows rated c g)) None) (was-owed c.first c.closing g.id es ∙ none-owed c.first c.closing g.id es h)

rates-same : (rows : List IndexRow) (sees : SegmentTerms → Bool) (a : Account) (seen : Seen) (b : Book) (rated : Rates) (balances : List ℤ) (accruals : List Accrued) → AreKeptOf rows sees a seen b rated balances accruals
    → (c : Cycle) → c.closing ≡ seen.day → kept_rate_lines rows rated c b.entries ≡ rate_lines a seen c b
unfolding kept_rate_lines rate_lines
rates-same rows sees a seen b rated balances accruals h c today =
    seen-lines (kept_rate_line rows rated c b.entries) (rate_line a seen c b) sees rated.segments
    (λ g there q. rate-same rows a seen b rated c g today (h.rates g)) (λ g there q. rate-none rows rated c b.entries g (h.others g there q))
    ∙ ap (filter_map (rate_line a seen c b)) (sym h.seen_ones)

-- ---- what is owed on each segment
owing-same : (balances : List ℤ) (b : Book) (s : ℕ) → get_or balances s (pos 0) ≡ balance s b.entries → kept_owing balances s ≡ owing s b.entries
owing-same balances b s e = ap at_least_zero e

owing-none : (balances : List ℤ) (b : Book) (s : ℕ) → get_or balances s (pos 0) ≡ balance s b.entries → All (λ e. eqb e.segment s ≡ false) b.entries → kept_owing balances s ≡ 0
owing-none balances b s e h = ap at_least_zero (e ∙ entries_have_segments.none b.entries s h)

closing-same : (rows : List IndexRow) (sees : SegmentTerms → Bool) (a : Account) (seen : Seen) (b : Book) (rated : Rates) (balances : List ℤ) (accruals : List Accrued) → AreKeptOf rows sees a seen b rated balances accruals
    → kept_amounts balances rated.segments ≡ filter_map (nonzero (λ g. owing g.id b.entries)) (all_segments a seen)
closing-same rows sees a seen b rated balances accruals h =
    seen-lines (nonzero (λ g. kept_owing balances g.id)) (nonzero (λ g. owing g.id b.entries)) sees rated.segments
    (λ g there q. ap (λ n. amount g n) (owing-same balances b g.id (h.sums g.id)))
    (λ g there q. ap (λ n. amount g n) (owing-none balances b g.id (h.sums g.id) (h.others g there q)))
    ∙ ap (filter_map (nonzero (λ g. owing g.id b.entries))) (sym h.seen_ones)
  where
    amount : SegmentTerms → ℕ → Option (ℕ × ℕ)
    amount g n = cond (eqb n 0) None (Some (g.id, n))

-- ---- the lines of deferred interest
-- the line of a segment with these amounts
abbrev line : SegmentTerms → ℕ → ℕ → DeferredLine
line g owing accrued = record { segment = g.id; balance = pos owing; accrued = pos (interest accrued); ends = end_of g.ends }

deferred-same : (seen : Seen) (b : Book) (balances : List ℤ) (accruals : List Accrued) (g : SegmentTerms) → kept_owing balances g.id ≡ owing g.id b.entries
    → (is_deferred_on seen.day g ≡ true → kept_accrual accruals g.id ≡ accrual seen b g) → kept_deferred_line seen.day balances accruals g ≡ deferred_line seen b g
unfolding kept_deferred_line
deferred-same seen b balances accruals g e k =
    ap (λ n. cond (is_deferred_on seen.day g && ltb 0 n) (Some (line g n (kept_accrual accruals g.id))) None) e ∙ by (is_deferred_on seen.day g) k
  where
    by : (t : Bool) → (t ≡ true → kept_accrual accruals g.id ≡ accrual seen b g)
        → cond (t && ltb 0 (owing g.id b.entries)) (Some (line g (owing g.id b.entries) (kept_accrual accruals g.id))) None
        ≡ cond (t && ltb 0 (owing g.id b.entries)) (Some (line g (owing g.id b.entries) (accrual seen b g))) None
    by true k = ap (λ n. cond (ltb 0 (owing g.id b.entries)) (Some (line g (owing g.id b.entries) n)) None) (k refl)
    by false k = refl

deferred-none : (day : ℕ) (balances : List ℤ) (accruals : List Accrued) (g : SegmentTerms) → kept_owing balances g.id ≡ 0 → kept_deferred_line day balances accruals g ≡ None
unfolding kept_deferred_line
deferred-none day balances accruals g e =
    ap (λ n. cond (is_deferred_on day g && ltb 0 n) (Some (line g n (kept_accrual accruals g.id))) None) e
    ∙ ap (λ t. cond t (Some (line g 0 (kept_accrual accruals g.id))) None) (and-none (is_deferred_on day g) (ltb 0 0) refl)

deferred-lines : (rows : List IndexRow) (sees : SegmentTerms → Bool) (a : Account) (seen : Seen) (b : Book) (rated : Rates) (balances : List ℤ) (accruals : List Accrued) → AreKeptOf rows sees a seen b rated balances accruals
    → kept_deferred_lines seen.day balances accruals rated.segments ≡ deferred_lines a seen b
unfolding kept_deferred_lines deferred_lines
deferred-lines rows sees a seen b rated balances accruals h =
    seen-lines (kept_deferred_line seen.day balances accruals) (deferred_line seen b) sees rated.segments
    (λ g there q. deferred-same seen b balances accruals g (owing-same balances b g.id (h.sums g.id)) (h.accrued g there))
    (λ g there q. deferred-none seen.day balances accruals g (owing-none balances b g.id (h.sums g.id) (h.others g there q)))
    ∙ ap (filter_map (deferred_line seen b)) (sym h.seen_ones)

pub lines_are_of_the_book : LinesAreOfTheBook
lines_are_of_the_book rows sees a seen b rated balances accruals h = record {
  rates = rates-same rows sees a seen b rated balances accruals h;
  deferred = deferred-lines rows sees a seen b rated balances accruals h;
  closing = closing-same rows sees a seen b rated balances accruals h;
}
