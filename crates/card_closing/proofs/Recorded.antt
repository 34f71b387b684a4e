-- The record of a closing is that of the definition.
use Rattle.std.proofs.Common.{◌≡◌, ℕ, zero, suc, ◌+◌, ◌-◌, ◌*◌, ◌/◌, ◌<◌, Bool, true, false, cond, ◌&&◌, List, [], ◌∷◌, drop, length, refl, sym, ap, ◌∙◌, arith, eqb, get_or, Option, Some, None, ℤ, pos, ◌-ℤ◌, div-lt_iff_lt-mul}
use Rattle.std.specs.Prelude.{unsigned_abs}
use Rattle.std.specs.List.{Contains, cons_option, filter, filter_map, range_with_len, sum_by}
use Rattle.std.proofs.lemmas.Bool.{ne_eqb}
use Rattle.std.proofs.lemmas.List.{get_or-drop, get_or-map, length-drop, length-map}
use Rattle.std.proofs.lemmas.List.Elements.{Contains-get_or}
use Rattle.std.proofs.lemmas.List.Sums.{sum_by-cons}
use Rattle.card_closing.specs.Accruals.{Accrued}
use Rattle.card_closing.specs.Rows.{Rows, average_of, no_rows, with_days}
use Rattle.card_closing.proofs.Growing.{rows_grow}
use Rattle.card_closing.proofs.OfBook.{rows_of_a_book}
use Rattle.card_model.specs.Books.{Account, Book, all_segments, present_cycle}
use Rattle.card_model.specs.Caps.{capped_by, issued_grace, issued_minimum}
use Rattle.card_model.specs.Closing.{Posting, by_segment, closed_cycle, closing_interest, ends_after, first_day_of, grace_amount, interest_note, minimum_of, minimum_payment, net_balance, nonzero, purchase_case_in}
use Rattle.card_model.specs.Cycles.{Cycle, IssuedRow, Seen, amount_at, amounts_sum}
use Rattle.card_model.specs.Entries.{AreBalances, at_least_zero, balance, owed, owing}
use Rattle.card_model.specs.Fees.{fees_in, fees_sum}
use Rattle.card_model.specs.Interest.{average_balance, case_of, half_up}
use Rattle.card_model.specs.Segments.{SegmentTerms, is_sort, kept_segment}
use Rattle.card_model.specs.declared.fee.Fee.{Fee}
use Rattle.card_model.specs.declared.grace.GraceCase.{GraceCase}
use Rattle.card_model.specs.declared.segment.Segment.{Segment}
use Rattle.card_model.specs.declared.segment.Sort.TheVariants as sort
use Rattle.card_rates.specs.RateBooks.{AreByNumber}
use Rattle.card_rates.proofs.ByNumber.{number-above}
use Rattle.card_segments.specs.Balances.{Balances, total}
use Rattle.card_segments.proofs.Totals.{total-owed}
use Rattle.card_closing.specs.Closes.{IsOfBook}
use Rattle.card_closing.specs.Interest.{IsTurnOf, StandFor, accrual_charge, accruals_turn, amounts_of, cycle_charge, interest_turn, statement_of}
use Rattle.card_closing.specs.Record.{balance_later, by_number, cycle_average, deferred_after, grace_by, minimum_by, net_of, nonzero_of, recorded}
use Rattle.card_closing.specs.Turns.{Turn, asked_of, asked_where_owed, of_segment}
use Rattle.card_closing.specs.declared.closing.Closing.{Closing}
use Rattle.card_closing.proofs.Bridge.{later-in}
use Rattle.card_closing.proofs.ByNumber.{length-amounts_of}
use Rattle.card_closing.proofs.Loops.{no_segment}
use Rattle.card_closing.proofs.OfClosing.{amounts_of-at, closing_interest_is, cycle-unknown, deferred-asks, no-balance, rows-known}
use Rattle.card_closing.proofs.Untouched.{IsSameAt, balance-none, same-then, untouched}

-- ---- the amounts of the segments that a day sees
numbered : (amount : ℕ → ℕ) (f : SegmentTerms → ℕ) (sees : SegmentTerms → Bool) (s : ℕ) (gs : List SegmentTerms) → AreByNumber s gs
    → ((g : SegmentTerms) → Contains gs g → sees g ≡ true → amount g.id ≡ f g) → ((g : SegmentTerms) → Contains gs g → sees g ≡ false → amount g.id ≡ 0)
    → filter_map (nonzero_of amount) (range_with_len s (length gs)) ≡ by_segment f (filter sees gs)
unfolding AreByNumber
numbered amount f sees s [] n k u = refl
numbered amount f sees s (g ∷ gs) (i, n) k u =
    let next : s + 1 ≡ suc s = omega arith in
    by (sees g) refl
    (ap (λ j. filter_map (nonzero_of amount) (range_with_len j (length gs))) next
    ∙ numbered amount f sees (suc s) gs n (λ x c. k x (later-in g x gs c)) (λ x c. u x (later-in g x gs c)))
  where
    by : (q : Bool) → sees g ≡ q → filter_map (nonzero_of amount) (range_with_len (s + 1) (length gs)) ≡ by_segment f (filter sees gs)
        → cons_option (nonzero_of amount s) (filter_map (nonzero_of amount) (range_with_len (s + 1) (length gs))) ≡ filter_map (nonzero f) (cond q (g ∷ filter sees gs) (filter sees gs))
    by true q rest =
        ap (λ us. cons_option (nonzero_of amount s) us) rest
        ∙ (ap (λ j. cons_option (nonzero_of amount j) (by_segment f (filter sees gs))) (sym i)
        ∙ ap (λ m. cons_option (cond (eqb m 0) None (Some (g.id, m))) (by_segment f (filter sees gs))) (k g (0, omega arith, refl) q))
    by false q rest =
        let none : amount s ≡ 0 = ap amount (sym i) ∙ u g (0, omega arith, refl) q in
        ap (λ m. cons_option (cond (eqb m 0) None (Some (s, m))) (filter_map (nonzero_of amount) (range_with_len (s + 1) (length gs)))) none ∙ rest

pub by-segment : (amount : ℕ → ℕ) (f : SegmentTerms → ℕ) (sees : SegmentTerms → Bool) (gs : List SegmentTerms) → AreByNumber 2 gs
    → ((g : SegmentTerms) → Contains gs g → sees g ≡ true → amount g.id ≡ f g) → ((g : SegmentTerms) → Contains gs g → sees g ≡ false → amount g.id ≡ 0) → by_number amount (length gs) ≡ by_segment f (filter sees gs)
unfolding by_number
by-segment amount f sees gs n k u = numbered amount f sees 2 gs n k u

-- ---- their sum
summed : (ns : List ℕ) (f : SegmentTerms → ℕ) (sees : SegmentTerms → Bool) (gs : List SegmentTerms) (d : SegmentTerms) → length ns ≡ length gs
    → ((i : ℕ) → i < length gs → get_or ns i 0 ≡ cond (sees (get_or gs i d)) (f (get_or gs i d)) 0) → sum_by (λ n. n) ns ≡ sum_by f (filter sees gs)
summed [] f sees [] d l h = refl
summed [] f sees (g ∷ gs) d l h = absurd (omega (arith, l))
summed (n ∷ ns) f sees [] d l h = absurd (omega (arith, l))
summed (n ∷ ns) f sees (g ∷ gs) d l h =
    by (sees g) refl (h 0 (omega arith)) (summed ns f sees gs d (omega (arith, l)) (λ i m. h (suc i) (omega (arith, m))))
  where
    by : (q : Bool) → sees g ≡ q → n ≡ cond (sees g) (f g) 0 → sum_by (λ n. n) ns ≡ sum_by f (filter sees gs) → sum_by (λ n. n) (n ∷ ns) ≡ sum_by f (cond q (g ∷ filter sees gs) (filter sees gs))
    by true q e ih =
        let first : n ≡ f g = e ∙ ap (λ t. cond t (f g) 0) q in
        omega (arith, sum_by-cons (λ n. n) n ns, sum_by-cons f g (filter sees gs), ih, first)
    by false q e ih =
        let first : n ≡ 0 = e ∙ ap (λ t. cond t (f g) 0) q in
        omega (arith, sum_by-cons (λ n. n) n ns, ih, first)

number-at : (m : ℕ) (gs : List SegmentTerms) (i : ℕ) (d : SegmentTerms) → AreByNumber m gs → i < length gs → (get_or gs i d).id ≡ m + i
unfolding AreByNumber
number-at m [] i d h l = absurd (omega arith)
number-at m (g ∷ gs) zero d h l = omega (arith, h.0)
number-at m (g ∷ gs) (suc i) d h l = number-at (suc m) gs i d h.1 (omega arith) ∙ omega arith

abbrev no_terms : SegmentTerms
no_terms = record { id = 0; sort = sort.Credit; post = 0; begins = 0; ends = None; rate = 0; effective = 0; after = 0 }

-- ---- rows without a balance
average-none : (n : ℕ) → half_up 0 n ≡ 0
average-none zero = refl
average-none (suc n) = ap (λ t. cond t 0 ((2 * 0 + suc n) / (2 * suc n))) (ne_eqb (suc n) 0 (λ e. omega (arith, e))) ∙ (ap (λ m. m / (2 * suc n)) plain ∙ small (suc n / (2 * suc n)) less)
  where
    plain : 2 * 0 + suc n ≡ suc n
    plain = omega arith

    less : suc n / (2 * suc n) < 1
    less = (div-lt_iff_lt-mul (omega arith)).1 (omega arith)

    small : (m : ℕ) → m < 1 → m ≡ 0
    small m h = omega (arith, h)

no-average : (c : GraceCase) (first n : ℕ) → average_of c (with_days n 0 0 (no_rows first)) ≡ 0
no-average c first n = ap (λ m. half_up m (length (with_days n 0 0 (no_rows first)).days)) (no-balance c first n) ∙ average-none (length (with_days n 0 0 (no_rows first)).days)

-- ---- caps
minimum-cap : (row : Option IssuedRow) (n : ℕ) → capped_by (λ (s : Cycle). s.minimum) (statement_of row) n ≡ capped_by issued_minimum row n
minimum-cap None n = refl
minimum-cap (Some r) n = refl

grace-cap : (row : Option IssuedRow) (n : ℕ) → capped_by (λ (s : Cycle). s.grace_amount) (statement_of row) n ≡ capped_by issued_grace row n
grace-cap None n = refl
grace-cap (Some r) n = refl

-- ---- a closing of the definition
module _ (row : Option IssuedRow) (all : List SegmentTerms) (sees : SegmentTerms → Bool) (a : Account) (seen : Seen) (b : Book) (gs : List Segment) (rows : List Rows) (accruals : List Accrued) (h : StandFor all sees a seen b gs rows accruals) where
  abbrev pub start : Turn
  start = record { amounts = []; entries = b.entries }

  abbrev pub charged : Turn
  charged = interest_turn (statement_of row) seen.day (purchase_case_in seen b) gs rows start

  abbrev pub ended : Turn
  ended = accruals_turn (statement_of row) seen.day gs accruals charged

  abbrev pub posting : Posting
  posting = closing_interest row a seen b

  pub tied : IsTurnOf ended posting
  tied = closing_interest_is row all sees a seen b gs rows accruals h

  stays : (g : SegmentTerms) → Contains all g → sees g ≡ false → IsSameAt g.id start ended
  unfolding interest_turn accruals_turn
  stays g c q =
      let low = number-above 2 all g h.numbers c in
      same-then g.id start charged ended
      (untouched row (interest_note seen) (asked_of (amounts_of (cycle_charge (purchase_case_in seen b) seen.day) gs rows)) g.id (length gs) start low (λ es. cycle-unknown all sees a seen b gs rows accruals g h c q))
      (untouched row (interest_note seen) (asked_where_owed (amounts_of (accrual_charge seen.day) gs accruals)) g.id (length gs) charged low ((deferred-asks row all sees a seen b gs rows accruals h).unknown g c q))

  pub interest-is : by_number (λ s. amount_at s ended.amounts) (length all) ≡ by_segment (λ g. amount_at g.id posting.amounts) (all_segments a seen)
  interest-is =
      by-segment (λ s. amount_at s ended.amounts) (λ g. amount_at g.id posting.amounts) sees all h.numbers (λ g c q. tied.each g.id) (λ g c q. (stays g c q).charged)
      ∙ ap (by_segment (λ g. amount_at g.id posting.amounts)) (sym h.seen_ones)

  average-known : (g : SegmentTerms) → Contains all g
      → of_segment (amounts_of (cycle_average (purchase_case_in seen b) seen.day) gs rows) g.id ≡ average_balance seen b (purchase_case_in seen b) (first_day_of a b) g
  unfolding cycle_average
  average-known g c =
      rows-known (cycle_average (purchase_case_in seen b) seen.day) all sees a seen b gs rows accruals g h c
      ∙ rows_of_a_book.average a seen b (purchase_case_in seen b) (first_day_of a b) g h.lowering (h.cases g c)

  average-unknown : (g : SegmentTerms) → Contains all g → sees g ≡ false → of_segment (amounts_of (cycle_average (purchase_case_in seen b) seen.day) gs rows) g.id ≡ 0
  unfolding cycle_average
  average-unknown g c q =
      let first = first_day_of a b in
      let way = case_of (purchase_case_in seen b) seen.day g in
      rows-known (cycle_average (purchase_case_in seen b) seen.day) all sees a seen b gs rows accruals g h c
      ∙ (ap (λ r. average_of way r) (rows_grow.added a seen b first g (h.others g c q).entries) ∙ no-average way first (seen.day + 1 - first))

  pub average-is : by_number (of_segment (amounts_of (cycle_average (purchase_case_in seen b) seen.day) gs rows)) (length all) ≡ by_segment (average_balance seen b (purchase_case_in seen b) (first_day_of a b)) (all_segments a seen)
  average-is =
      by-segment (of_segment (amounts_of (cycle_average (purchase_case_in seen b) seen.day) gs rows)) (average_balance seen b (purchase_case_in seen b) (first_day_of a b)) sees all h.numbers (λ g c q. average-known g c) average-unknown
      ∙ ap (by_segment (average_balance seen b (purchase_case_in seen b) (first_day_of a b))) (sym h.seen_ones)

  -- ---- of the balances afterwards
  module _ (after : Balances) (kept : drop 2 after.segments ≡ gs) (count : length after.balances ≡ length all + 2) (sums : AreBalances ended.entries after.balances) where
    pub owed-is : total after.balances ≡ owed posting.book.entries
    owed-is = total-owed ended.entries after.balances sums ∙ ap owed tied.entries

    held-same : get_or after.balances 1 (pos 0) ≡ balance 1 posting.book.entries
    held-same = sums.each 1 (omega (arith, count)) ∙ ap (balance 1) tied.entries

    pub held-is : at_least_zero (get_or after.balances 1 (pos 0)) ≡ owing 1 posting.book.entries
    held-is = ap at_least_zero held-same

    pub net-is : net_of after ≡ net_balance posting.book.entries
    net-is = ap (λ z. z -ℤ get_or after.balances 1 (pos 0)) owed-is ∙ ap (λ z. owed posting.book.entries -ℤ z) held-same

    abbrev later : ℕ → SegmentTerms → ℕ
    later day g = cond (is_sort sort.Deferred g.sort && ends_after day g.ends) (owing g.id posting.book.entries) 0

    later-one : (day : ℕ) (g : SegmentTerms) → Contains all g → balance_later day (kept_segment g) (balance g.id ended.entries) ≡ cond (sees g) (later day g) 0
    unfolding balance_later
    later-one day g c = by (sees g) refl
      where
        nothing : (t : Bool) → ◌≡◌ {A = ℕ} (cond t 0 0) 0
        nothing true = refl
        nothing false = refl

        by : (q : Bool) → sees g ≡ q → ◌≡◌ {A = ℕ} (cond (is_sort sort.Deferred g.sort && ends_after day g.ends) (at_least_zero (balance g.id ended.entries)) 0) (cond q (cond (is_sort sort.Deferred g.sort && ends_after day g.ends) (owing g.id posting.book.entries) 0) 0)
        by true q = ap (λ es. cond (is_sort sort.Deferred g.sort && ends_after day g.ends) (owing g.id es) 0) tied.entries
        by false q =
            ap (λ z. cond (is_sort sort.Deferred g.sort && ends_after day g.ends) (at_least_zero z) 0) ((stays g c q).owes ∙ balance-none g.id b.entries (h.others g c q).entries)
            ∙ nothing (is_sort sort.Deferred g.sort && ends_after day g.ends)

    pub later-is : (day : ℕ) → deferred_after day after ≡ sum_by (later day) (all_segments a seen)
    unfolding deferred_after
    later-is day =
        let rest = drop 2 after.balances in
        let long : length gs ≡ length all = ap length h.kept ∙ length-map all kept_segment in
        let short : length rest ≡ length all = omega (arith, length-drop 2 after.balances, count) in
        ap (λ us. sum_by (λ n. n) (amounts_of (balance_later day) us rest)) kept
        ∙ (summed (amounts_of (balance_later day) gs rest) (later day) sees all no_terms (length-amounts_of (balance_later day) gs rest (short ∙ sym long) ∙ long) (each rest long short)
        ∙ ap (sum_by (later day)) (sym h.seen_ones))
      where
        each : (rest : List ℤ) → length gs ≡ length all → length rest ≡ length all → (i : ℕ) → i < length all
            → get_or (amounts_of (balance_later day) gs (drop 2 after.balances)) i 0 ≡ cond (sees (get_or all i no_terms)) (later day (get_or all i no_terms)) 0
        each rest long short i l =
            let g = get_or all i no_terms in
            let number = number-at 2 all i no_terms h.numbers l in
            let kept_at : get_or gs i no_segment ≡ kept_segment g = ap (λ us. get_or us i no_segment) h.kept ∙ get_or-map kept_segment all i no_terms no_segment l in
            let owes : get_or (drop 2 after.balances) i (pos 0) ≡ balance g.id ended.entries =
            get_or-drop 2 after.balances i (pos 0) ∙ (sums.each (2 + i) (omega (arith, l, count)) ∙ ap (λ k. balance k ended.entries) (sym number)) in
            amounts_of-at (balance_later day) gs (drop 2 after.balances) i no_segment (pos 0) (omega (arith, l, long)) (omega (arith, l, length-drop 2 after.balances, count))
            ∙ (ap (λ k. balance_later day k (get_or (drop 2 after.balances) i (pos 0))) kept_at
            ∙ (ap (balance_later day (kept_segment g)) owes ∙ later-one day g (Contains-get_or all i no_terms l)))

    -- ---- the record
    pub minimum-is : (c : Closing) (fees : List Fee) → IsOfBook c a seen b → fees ≡ fees_in (present_cycle b) b.fees
        → minimum_by c (statement_of row) ended.amounts fees after ≡ capped_by issued_minimum row (minimum_payment a seen b posting)
    unfolding minimum_by minimum_payment
    minimum-is c fees k f =
        minimum-cap row (minimum_of (net_of after) (unsigned_abs c.floor) c.pct (amounts_sum ended.amounts + fees_sum fees) c.past_due)
        ∙ ap (capped_by issued_minimum row) (rw (net-is, k.least, k.part, tied.sum, f, k.left) refl)

    pub grace-is : (c : Closing) → IsOfBook c a seen b → grace_by c (statement_of row) after ≡ capped_by issued_grace row (grace_amount a seen posting)
    unfolding grace_by grace_amount
    grace-is c k =
        grace-cap row (at_least_zero (net_of after -ℤ pos (deferred_after c.next_closing after)))
        ∙ ap (capped_by issued_grace row) (rw (net-is, later-is c.next_closing, k.next_day) refl)

    pub recorded-is : (c : Closing) (fees : List Fee) → IsOfBook c a seen b → fees_in (present_cycle b) fees ≡ fees_in (present_cycle b) b.fees
        → recorded c (statement_of row) ended.amounts rows fees after (length ended.entries) ≡ closed_cycle row a seen b posting
    unfolding recorded
    recorded-is c fees k f =
        let n : length after.balances - 2 ≡ length all = omega (arith, count) in
        let same : fees_in c.number fees ≡ fees_in (present_cycle b) b.fees = ap (λ i. fees_in i fees) k.cycle ∙ f in
        rw (minimum-is c (fees_in c.number fees) k same, grace-is c k, same, n, kept, k.grace, k.today, interest-is, average-is, owed-is, held-is, tied.entries, k.owed_before, k.cycle, k.first_day, k.due_day) refl
