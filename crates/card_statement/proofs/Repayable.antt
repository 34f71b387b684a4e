-- What is owed on each segment at a closing: how many amounts, how large they are together, and the line of the rate of each.
use Rattle.std.proofs.Common.{◌≡◌, ℕ, zero, suc, ◌+◌, ◌-◌, ◌*◌, ◌≤◌, Bool, true, false, cond, eqb, List, [], ◌∷◌, length, refl, sym, ap, ◌∙◌, subst, arith, Option, Some, None}
use Rattle.std.specs.Prelude.{get_or, nat_lt, nat_le}
use Rattle.std.specs.List.{All, cons_option, filter, filter_map, range_with_len}
use Rattle.std.proofs.lemmas.Bool.Decides.{nat_tests}
use Rattle.std.proofs.lemmas.List.Elements.{All-cons, All-head, All-nil, All-tail, All-weaker, Contains-append_right}
use Rattle.std.proofs.lemmas.List.Folds.{list_any_at}
use Rattle.std.proofs.lemmas.List.FromFn.{get_or-range_with_len, length-range_with_len}
use Rattle.std.proofs.lemmas.List.Sums.{sum_by-cons}
use Rattle.card_bounds.proofs.OnDays.{entries_have_days}
use Rattle.card_events.proofs.Cycles.{closing_grows}
use Rattle.card_events.specs.Billing.{closing}
use Rattle.card_events.specs.History.{anchor_of}
use Rattle.card_model.proofs.Calendar.{cycles_are_of_the_calendar}
use Rattle.card_model.specs.Books.{Account, Book, account_of, all_segments, rate_in}
use Rattle.card_model.specs.Closing.{nonzero}
use Rattle.card_model.specs.Cycles.{Cycle, Seen, amount_at, amounts_sum, seen_on}
use Rattle.card_model.specs.Entries.{owing}
use Rattle.card_model.specs.Folds.{book}
use Rattle.card_model.specs.Limits.{balance_limit}
use Rattle.card_model.specs.Segments.{SegmentTerms}
use Rattle.card_model.specs.Sheets.{had_balance, owing_on, rate_line, rate_lines, sheet_in, sheet_of}
use Rattle.card_model.specs.declared.entry.Entry.{Entry}
use Rattle.card_model.specs.declared.lines.RateLine.{RateLine}
use Rattle.card_statement.specs.Laws.{ClosingsHaveRates, HasRate}

-- ---- how many and how large
pub amounts-few : (amount : SegmentTerms → ℕ) (gs : List SegmentTerms) → length (filter_map (nonzero amount) gs) ≤ length gs
amounts-few amount [] = omega arith
amounts-few amount (g ∷ gs) = by (eqb (amount g) 0) (amounts-few amount gs)
  where
    by : (t : Bool) → length (filter_map (nonzero amount) gs) ≤ length gs → length (cons_option (cond t None (Some (g.id, amount g))) (filter_map (nonzero amount) gs)) ≤ suc (length gs)
    by true h = omega (arith, h)
    by false h = omega (arith, h)

pub amounts-small : (amount : SegmentTerms → ℕ) (gs : List SegmentTerms) → ((g : SegmentTerms) → amount g ≤ balance_limit) → amounts_sum (filter_map (nonzero amount) gs) ≤ length gs * balance_limit
amounts-small amount [] h = omega arith
amounts-small amount (g ∷ gs) h = by (eqb (amount g) 0) (amounts-small amount gs h)
  where
    by : (t : Bool) → amounts_sum (filter_map (nonzero amount) gs) ≤ length gs * balance_limit
        → amounts_sum (cons_option (cond t None (Some (g.id, amount g))) (filter_map (nonzero amount) gs)) ≤ suc (length gs) * balance_limit
    by true l = omega (arith, l)
    by false l =
        let all = sum_by-cons (λ (x : ℕ × ℕ). x.1) (g.id, amount g) (filter_map (nonzero amount) gs) in
        let one = h g in
        omega (arith, l, all, one)

-- ---- each has a rate
-- the line of a segment, where it has one
abbrev IsLineOf : SegmentTerms → Option RateLine → Type 0
IsLineOf g o = (l : RateLine) × (o ≡ Some l) × (l.segment ≡ g.id)

rated-later : (o : Option RateLine) (lines : List RateLine) (x : ℕ × ℕ) → HasRate lines x → HasRate (cons_option o lines) x
rated-later None lines x h = h
rated-later (Some l) lines x h = record { line = h.line; there = Contains-append_right (l ∷ []) lines h.line h.there; its_own = h.its_own }

rated-first : (o : Option RateLine) (lines : List RateLine) (g : SegmentTerms) (n : ℕ) → IsLineOf g o → HasRate (cons_option o lines) (g.id, n)
rated-first o lines g n is = subst (λ p. HasRate (cons_option p lines) (g.id, n)) (sym is.1) (record { line = is.0; there = (0, omega arith, refl); its_own = is.2 })

amounts-rated : (amount : SegmentTerms → ℕ) (line : SegmentTerms → Option RateLine) → ((g : SegmentTerms) → eqb (amount g) 0 ≡ false → IsLineOf g (line g)) → (gs : List SegmentTerms)
    → All (HasRate (filter_map line gs)) (filter_map (nonzero amount) gs)
amounts-rated amount line is [] = All-nil (HasRate [])
amounts-rated amount line is (g ∷ gs) =
    by (eqb (amount g) 0) refl
    (All-weaker (HasRate (filter_map line gs)) (HasRate (cons_option (line g) (filter_map line gs))) (λ x h. rated-later (line g) (filter_map line gs) x h) (filter_map (nonzero amount) gs) (amounts-rated amount line is gs))
  where
    by : (t : Bool) → eqb (amount g) 0 ≡ t → All (HasRate (cons_option (line g) (filter_map line gs))) (filter_map (nonzero amount) gs)
        → All (HasRate (cons_option (line g) (filter_map line gs))) (cons_option (cond t None (Some (g.id, amount g))) (filter_map (nonzero amount) gs))
    by true e h = h
    by false e h =
        All-cons (HasRate (cons_option (line g) (filter_map line gs))) (g.id, amount g) (filter_map (nonzero amount) gs) (rated-first (line g) (filter_map line gs) g (amount g) (is g e)) h

-- ---- on the closing day
all-by : (day : ℕ) (es : List Entry) → All (λ e. e.day ≤ day) es → filter (λ e. nat_le e.day day) es ≡ es
all-by day [] h = refl
all-by day (e ∷ es) h =
    let first : nat_le e.day day ≡ true = let l = All-head (λ (x : Entry). x.day ≤ day) e es h in grind (arith, nat_tests) in
    rw first (ap (λ xs. e ∷ xs) (all-by day es (All-tail (λ (x : Entry). x.day ≤ day) e es h)))

owed-had : (first last : ℕ) (es : List Entry) (s : ℕ) → first ≤ last → All (λ e. e.day ≤ last) es → eqb (owing s es) 0 ≡ false → had_balance first last es s ≡ true
unfolding had_balance
owed-had first last es s l h e =
    let long = length-range_with_len first (last + 1 - first) in
    let place = get_or-range_with_len first (last + 1 - first) (last - first) 0 (omega (arith, l)) in
    let day : get_or (range_with_len first (last + 1 - first)) (last - first) 0 ≡ last = place ∙ omega (arith, l) in
    let all = ap (owing s) (all-by last es h) in
    let above : nat_lt 0 (owing s es) ≡ true = grind (arith, nat_tests) in
    list_any_at (λ d. nat_lt 0 (owing_on s d es)) (range_with_len first (last + 1 - first)) (last - first) 0 (omega (arith, l, long))
    (ap (λ d. nat_lt 0 (owing_on s d es)) day ∙ (ap (λ n. nat_lt 0 n) all ∙ above))

line-of : (a : Account) (seen : Seen) (c : Cycle) (b : Book) (g : SegmentTerms) → had_balance c.first c.closing b.entries g.id ≡ true → IsLineOf g (rate_line a seen c b g)
line-of a seen c b g h =
    (record { segment = g.id; sort = g.sort; rate = rate_in a seen b c.closing g; average = amount_at g.id c.average; interest = amount_at g.id c.interest }, rw h refl, refl)

pub closings_have_rates : ClosingsHaveRates
unfolding sheet_of sheet_in rate_lines
closings_have_rates history issued shared day zero issue c opening last there = absurd (cc)
closings_have_rates history issued shared day (suc k) issue c opening last there =
    let own = cycles_are_of_the_calendar.days history issued shared day (suc k) c opening last there in
    let grows = closing_grows (anchor_of history) k in
    let back : suc k - 1 ≡ k = omega arith in
    let begins = own.first ∙ ap (λ n. closing (anchor_of history) n + 1) back in
    let first : c.first ≤ c.closing = ordered c.first c.closing (closing (anchor_of history) k) (closing (anchor_of history) (suc k)) begins own.closing grows in
    let b = book history issued shared c.closing in
    let dated = entries_have_days.days history issued shared c.closing in
    let a = account_of history in
    let seen = seen_on (anchor_of history) shared history issued c.closing in
    amounts-rated (λ g. owing g.id b.entries) (rate_line a seen c b) (λ g e. line-of a seen c b g (owed-had c.first c.closing b.entries g.id first dated e)) (all_segments a seen)
  where
    ordered : (x y m n : ℕ) → x ≡ m + 1 → y ≡ n → m + 1 ≤ n → x ≤ y
    ordered x y m n e f l = omega (arith, e, f, l)
