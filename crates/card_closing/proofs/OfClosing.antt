-- The interest of all segments and the accruals, as the definition of a closing posts them.
use Rattle.std.proofs.Common.{◌≡◌, ℕ, zero, suc, ◌+◌, ◌-◌, ◌*◌, ◌<◌, Bool, true, false, cond, ◌&&◌, List, [], ◌∷◌, map, length, refl, sym, ap, ◌∙◌, subst, arith, ltb, get_or, Option}
use Rattle.std.specs.List.{Contains, filter, range_with_len, sum_by}
use Rattle.std.proofs.lemmas.List.{get_or-map, length-map}
use Rattle.std.proofs.lemmas.List.Sums.{sum_by-cons}
use Rattle.card_events.specs.Money.{daily, interest}
use Rattle.card_closing.specs.Accruals.{Accrued, nothing_accrued}
use Rattle.card_closing.specs.BookRows.{rows_of}
use Rattle.card_closing.specs.Rows.{DayRow, Rows, bearing, interest_on, no_rows, row_of, with_days}
use Rattle.card_closing.proofs.Days.{sum_by-map}
use Rattle.card_closing.proofs.Growing.{rows_grow}
use Rattle.card_closing.proofs.OfBook.{rows_of_a_book}
use Rattle.card_closing.proofs.Turns.{interest_in_turn}
use Rattle.card_model.specs.Books.{Account, Book}
use Rattle.card_model.specs.Closing.{Posting, closing_interest, first_day_of, interest_note, post_interest, post_one, posted_for, purchase_case_in}
use Rattle.card_model.specs.Cycles.{IssuedRow, Seen}
use Rattle.card_model.specs.Entries.{owing}
use Rattle.card_model.specs.Interest.{accrual, case_of, cycle_interest, deferred_interest, ends_today}
use Rattle.card_model.specs.Segments.{SegmentTerms, kept_segment}
use Rattle.card_model.specs.declared.grace.GraceCase.{GraceCase}
use Rattle.card_model.specs.declared.grace.GraceCase.TheVariants as case
use Rattle.card_model.specs.declared.segment.Segment.{Segment}
use Rattle.card_rates.specs.RateBooks.{AreByNumber}
use Rattle.card_rates.proofs.ByNumber.{at-place, number-above, number-below}
use Rattle.card_closing.specs.Interest.{InterestOfAClosing, IsTurnOf, StandFor, accrual_charge, accruals_turn, amounts_of, cycle_charge, interest_turn, statement_of}
use Rattle.card_closing.specs.Turns.{Turn, asked_of, asked_where_owed, in_turn, of_segment}
use Rattle.card_closing.proofs.Bridge.{AsksAlike, turns-alike}

-- ---- lists
pub amounts_of-at : {A : Type 0} (amount : Segment → A → ℕ) (gs : List Segment) (xs : List A) (i : ℕ) (d : Segment) (e : A) → i < length gs → i < length xs
    → get_or (amounts_of amount gs xs) i 0 ≡ amount (get_or gs i d) (get_or xs i e)
unfolding amounts_of
amounts_of-at amount [] xs i d e l m = absurd (omega arith)
amounts_of-at amount (g ∷ gs) [] i d e l m = absurd (omega arith)
amounts_of-at amount (g ∷ gs) (x ∷ xs) zero d e l m = refl
amounts_of-at amount (g ∷ gs) (x ∷ xs) (suc i) d e l m = amounts_of-at amount gs xs i d e (omega arith) (omega arith)

-- the amount of a segment that stands at its number
placed : {A : Type 0} (amount : Segment → A → ℕ) (all : List SegmentTerms) (xs : List A) (g : SegmentTerms) (e : A) → AreByNumber 2 all → Contains all g → length xs ≡ length all
    → get_or (amounts_of amount (map kept_segment all) xs) (g.id - 2) 0 ≡ amount (kept_segment g) (get_or xs (g.id - 2) e)
placed amount all xs g e n c long =
    let above = number-above 2 all g n c in
    let below = number-below 2 all g n c in
    let here : g.id - 2 < length all = omega (arith, above, below) in
    let there : g.id - 2 < length (map kept_segment all) = omega (arith, here, length-map all kept_segment) in
    let kept : get_or (map kept_segment all) (g.id - 2) (kept_segment g) ≡ kept_segment g = get_or-map kept_segment all (g.id - 2) g (kept_segment g) here ∙ ap kept_segment (at-place 2 all g g n c) in
    amounts_of-at amount (map kept_segment all) xs (g.id - 2) (kept_segment g) e there (omega (arith, here, long)) ∙ ap (λ k. amount k (get_or xs (g.id - 2) e)) kept

-- ---- rows without a balance
bears-none : (c : GraceCase) (day : ℕ) → bearing c [] (row_of 0 0 day) ≡ 0
bears-none case.None day = refl
bears-none (case.Lowered due) day = omega arith
bears-none case.Plain day = refl

zeros : (f : ℕ → ℕ) (xs : List ℕ) → ((x : ℕ) → f x ≡ 0) → sum_by f xs ≡ 0
zeros f [] h = refl
zeros f (x ∷ xs) h = omega (arith, sum_by-cons f x xs, zeros f xs h, h x)

no-interest : (c : GraceCase) (first n : ℕ) → interest_on c (with_days n 0 0 (no_rows first)) ≡ 0
no-interest c first n =
    sum_by-map (row_of 0 0) (λ (r : DayRow). bearing c [] r * daily r.rate) (range_with_len (first + 0) n)
    ∙ zeros (λ x. bearing c [] (row_of 0 0 x) * daily 0) (range_with_len (first + 0) n) (λ x. ap (λ m. m * daily 0) (bears-none c x) ∙ nothing (daily 0))
  where
    nothing : (m : ℕ) → 0 * m ≡ 0
    nothing m = omega arith

nothing-due : interest 0 ≡ 0
unfolding interest
nothing-due = refl

-- the balances that bear interest
pub no-balance : (c : GraceCase) (first n : ℕ) → sum_by (bearing c []) (with_days n 0 0 (no_rows first)).days ≡ 0
no-balance c first n = sum_by-map (row_of 0 0) (bearing c []) (range_with_len (first + 0) n) ∙ zeros (λ x. bearing c [] (row_of 0 0 x)) (range_with_len (first + 0) n) (bears-none c)

-- ---- the interest of the cycle
pub rows-known : (amount : Segment → Rows → ℕ) (all : List SegmentTerms) (sees : SegmentTerms → Bool) (a : Account) (seen : Seen) (b : Book) (gs : List Segment) (rows : List Rows) (accruals : List Accrued) (g : SegmentTerms)
    → StandFor all sees a seen b gs rows accruals → Contains all g → of_segment (amounts_of amount gs rows) g.id ≡ amount (kept_segment g) (rows_of a seen b (first_day_of a b) g)
rows-known amount all sees a seen b gs rows accruals g h c =
    let first = first_day_of a b in
    let above = number-above 2 all g h.numbers c in
    let below = number-below 2 all g h.numbers c in
    let here : g.id - 2 < length all = omega (arith, above, below) in
    let long : length (map (rows_of a seen b first) all) ≡ length all = length-map all (rows_of a seen b first) in
    let mine : get_or (map (rows_of a seen b first) all) (g.id - 2) (rows_of a seen b first g) ≡ rows_of a seen b first g =
    get_or-map (rows_of a seen b first) all (g.id - 2) g (rows_of a seen b first g) here ∙ ap (rows_of a seen b first) (at-place 2 all g g h.numbers c) in
    rw (h.kept, h.same_rows)
    (placed amount all (map (rows_of a seen b first) all) g (rows_of a seen b first g) h.numbers c long ∙ ap (λ r. amount (kept_segment g) r) mine)

cycle-known : (all : List SegmentTerms) (sees : SegmentTerms → Bool) (a : Account) (seen : Seen) (b : Book) (gs : List Segment) (rows : List Rows) (accruals : List Accrued) (g : SegmentTerms)
    → StandFor all sees a seen b gs rows accruals → Contains all g
    → of_segment (amounts_of (cycle_charge (purchase_case_in seen b) seen.day) gs rows) g.id ≡ cycle_interest a seen (purchase_case_in seen b) (first_day_of a b) b g
unfolding cycle_charge
cycle-known all sees a seen b gs rows accruals g h c =
    rows-known (cycle_charge (purchase_case_in seen b) seen.day) all sees a seen b gs rows accruals g h c
    ∙ ap interest (rows_of_a_book.interest a seen b (purchase_case_in seen b) (first_day_of a b) g h.lowering (h.cases g c))

pub cycle-unknown : (all : List SegmentTerms) (sees : SegmentTerms → Bool) (a : Account) (seen : Seen) (b : Book) (gs : List Segment) (rows : List Rows) (accruals : List Accrued) (g : SegmentTerms)
    → StandFor all sees a seen b gs rows accruals → Contains all g → sees g ≡ false
    → of_segment (amounts_of (cycle_charge (purchase_case_in seen b) seen.day) gs rows) g.id ≡ 0
cycle-unknown all sees a seen b gs rows accruals g h c q =
    let first = first_day_of a b in
    let purchase = purchase_case_in seen b in
    let way = case_of purchase seen.day g in
    cycle-known all sees a seen b gs rows accruals g h c
    ∙ (ap interest (sym (rows_of_a_book.interest a seen b purchase first g h.lowering (h.cases g c)))
    ∙ (ap (λ r. interest (interest_on way r)) (rows_grow.added a seen b first g (h.others g c q).entries) ∙ (ap interest (no-interest way first (seen.day + 1 - first)) ∙ nothing-due)))

abbrev Always : Posting → Type 0
Always p = p ≡ p

cycle-asks : (row : Option IssuedRow) (all : List SegmentTerms) (sees : SegmentTerms → Bool) (a : Account) (seen : Seen) (b : Book) (gs : List Segment) (rows : List Rows) (accruals : List Accrued)
    → StandFor all sees a seen b gs rows accruals
    → AsksAlike row seen (λ c g. cycle_interest a seen (purchase_case_in seen b) (first_day_of a b) b g) (asked_of (amounts_of (cycle_charge (purchase_case_in seen b) seen.day) gs rows)) sees Always all
cycle-asks row all sees a seen b gs rows accruals h = record {
  stays = λ g p k. refl;
  known = λ g c q p k. cycle-known all sees a seen b gs rows accruals g h c;
  unknown = λ g c q es. cycle-unknown all sees a seen b gs rows accruals g h c q;
}

-- ---- accruals whose period ends
accrual-known : (all : List SegmentTerms) (sees : SegmentTerms → Bool) (a : Account) (seen : Seen) (b : Book) (gs : List Segment) (rows : List Rows) (accruals : List Accrued) (g : SegmentTerms)
    → StandFor all sees a seen b gs rows accruals → Contains all g
    → of_segment (amounts_of (accrual_charge seen.day) gs accruals) g.id ≡ cond (ends_today seen g) (interest (accrual seen b g)) 0
unfolding accrual_charge
accrual-known all sees a seen b gs rows accruals g h c =
    rw h.kept (placed (accrual_charge seen.day) all accruals g nothing_accrued h.numbers c h.each_accrues ∙ by (ends_today seen g) refl)
  where
    by : (t : Bool) → ends_today seen g ≡ t → cond t (interest (get_or accruals (g.id - 2) nothing_accrued).sum) 0 ≡ cond t (interest (accrual seen b g)) 0
    by true e = ap interest (h.accrued g c e)
    by false e = refl

-- the accruals of the book stay what they were
abbrev Accrues : Seen → Book → Posting → Type 0
Accrues seen b p = (g : SegmentTerms) → accrual seen p.book g ≡ accrual seen b g

one-more : (row : Option IssuedRow) (seen : Seen) (b : Book) (amount : Book → SegmentTerms → ℕ) (g : SegmentTerms) (p : Posting) → Accrues seen b p → Accrues seen b (post_one seen g (posted_for row amount g p) p)
unfolding post_interest
one-more row seen b amount g p k x = interest_in_turn.accruals row seen amount (g ∷ []) p x ∙ k x

both : (p q : Bool) (n : ℕ) → cond p (cond q n 0) 0 ≡ cond (q && p) n 0
both true true n = refl
both true false n = refl
both false true n = refl
both false false n = refl

pub deferred-asks : (row : Option IssuedRow) (all : List SegmentTerms) (sees : SegmentTerms → Bool) (a : Account) (seen : Seen) (b : Book) (gs : List Segment) (rows : List Rows) (accruals : List Accrued)
    → StandFor all sees a seen b gs rows accruals
    → AsksAlike row seen (deferred_interest seen) (asked_where_owed (amounts_of (accrual_charge seen.day) gs accruals)) sees (Accrues seen b) all
deferred-asks row all sees a seen b gs rows accruals h = record {
  stays = λ g p k. one-more row seen b (deferred_interest seen) g p k;
  known = λ g c q p k.
      ap (λ n. cond (ltb 0 (owing g.id p.book.entries)) n 0) (accrual-known all sees a seen b gs rows accruals g h c)
      ∙ (both (ltb 0 (owing g.id p.book.entries)) (ends_today seen g) (interest (accrual seen b g))
      ∙ ap (λ n. cond (ends_today seen g && ltb 0 (owing g.id p.book.entries)) (interest n) 0) (sym (k g)));
  unknown = λ g c q es.
      let none : of_segment (amounts_of (accrual_charge seen.day) gs accruals) g.id ≡ 0 = accrual-known all sees a seen b gs rows accruals g h c ∙ rw (h.others g c q).accrues refl in
      any (ltb 0 (owing g.id es)) _ none;
}
  where
    any : (t : Bool) (n : ℕ) → n ≡ 0 → cond t n 0 ≡ 0
    any true n e = e
    any false n e = refl

-- ---- both
pub closing_interest_is : InterestOfAClosing
unfolding interest_turn accruals_turn closing_interest
closing_interest_is row all sees a seen b gs rows accruals h =
    let purchase = purchase_case_in seen b in
    let first = first_day_of a b in
    let start : Posting = record { amounts = []; book = b } in
    let t : Turn = record { amounts = []; entries = b.entries } in
    let some = filter sees all in
    let count : length gs ≡ length all = ap length h.kept ∙ length-map all kept_segment in
    let first_asks = asked_of (amounts_of (cycle_charge purchase seen.day) gs rows) in
    let turns = turns-alike row seen (λ c g. cycle_interest a seen purchase first b g) first_asks sees Always all t start h.numbers (cycle-asks row all sees a seen b gs rows accruals h) refl
    (record { each = λ s. refl; sum = refl; entries = refl }) in
    let u : Turn = in_turn (statement_of row) (interest_note seen) first_asks (length all) t in
    let p : Posting = post_interest row seen (cycle_interest a seen purchase first) some start in
    let one : IsTurnOf u p = subst (λ (p : Posting). IsTurnOf u p) (sym (interest_in_turn.amounts row a seen purchase first some start)) turns in
    let two = turns-alike row seen (deferred_interest seen) (asked_where_owed (amounts_of (accrual_charge seen.day) gs accruals)) sees (Accrues seen b) all u p h.numbers
    (deferred-asks row all sees a seen b gs rows accruals h) (λ g. interest_in_turn.accruals row seen (cycle_interest a seen purchase first) some start g) one in
    rw (count, h.seen_ones) two
