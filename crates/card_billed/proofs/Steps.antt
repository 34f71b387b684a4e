-- Break days and steps up to the day of the first row that isn't made.
use Rattle.std.proofs.Common.{◌≡◌, ℕ, zero, suc, ◌+◌, ◌-◌, ◌<◌, ◌≤◌, Bool, true, false, cond, not, ◌&&◌, ◌||◌, eqb, nat_le, List, [], ◌∷◌, ◌++◌, refl, sym, ap, ◌∙◌, subst, arith, add_assoc, ◌⊎◌, inl, inr}
use Rattle.std.specs.List.{All, list_any, range_with_len}
use Rattle.std.proofs.lemmas.Bool.{cases_lt}
use Rattle.std.proofs.lemmas.Bool.Decides.{nat_tests}
use Rattle.std.proofs.lemmas.List.Elements.{All-weaker}
use Rattle.std.proofs.lemmas.List.Folds.{list_any-append, list_any_none}
use Rattle.std.proofs.lemmas.List.Sums.{sum_by-cons}
use Rattle.std.specs.Prelude.{nat_lt}
use Rattle.card_events.specs.Business.{is_due}
use Rattle.card_events.specs.Civil.{day_of_month}
use Rattle.card_events.specs.History.{CorrectedPost, anchor_of, corrected}
use Rattle.card_events.specs.SharedRows.{IndexRow, SharedRows}
use Rattle.card_events.specs.declared.kept.Kept.{Kept}
use Rattle.card_model.specs.Books.{Account, Book, account_of}
use Rattle.card_model.specs.Breaks.{breaks_among, breaks_penalty, breaks_segment, is_break}
use Rattle.card_model.specs.Cuts.{is_break_by}
use Rattle.card_model.specs.Cycles.{IssuedRow}
use Rattle.card_model.specs.Folds.{book}
use Rattle.card_model.specs.Segments.{segments}
use Rattle.card_model.specs.Spans.{steps_among}
use Rattle.card_model.specs.declared.segment.Interval.{Interval}
use Rattle.card_model.proofs.Spans.{spans_are_steps}
use Rattle.card_billed.proofs.Late.{unmade_rows_change_no_past_day}
use Rattle.card_billed.specs.Laws.{IssueDaysAreBreaks, StepsToTheFirst}
use Rattle.card_billed.specs.Unmade.{AreUnmade}

-- ---- tests that agree before a day take as many steps to it
first-of : (p : ℕ → Bool) (first n : ℕ) → breaks_among p first (suc n) ≡ cond (p first) 1 0 + breaks_among p (first + 1) n
first-of p first n = sum_by-cons (λ x. cond (p x) 1 0) first (range_with_len (first + 1) n)

steps-by : (p : ℕ → Bool) (first to n : ℕ) → to + 1 - first ≡ n → nat_le first to ≡ true → steps_among p first to ≡ breaks_among p first n + cond (not (p to)) 1 0
steps-by p first to n e f = ap (λ k. breaks_among p first k + cond (nat_le first to && not (p to)) 1 0) e ∙ ap (λ t. breaks_among p first n + cond (t && not (p to)) 1 0) f

steps-last : (p : ℕ → Bool) (day : ℕ) → steps_among p day day ≡ 1
steps-last p day =
    let now : nat_le day day ≡ true = grind (arith, nat_tests) in
    steps-by p day day (suc 0) (omega arith) now ∙ (ap (λ k. k + cond (not (p day)) 1 0) (first-of p day 0) ∙ by (p day))
  where
    by : (t : Bool) → cond t 1 0 + 0 + cond (not t) 1 0 ≡ 1
    by true = refl
    by false = refl

steps-next : (p : ℕ → Bool) (first to : ℕ) → first < to → steps_among p first to ≡ cond (p first) 1 0 + steps_among p (first + 1) to
steps-next p first to l =
    let now : nat_le first to ≡ true = grind (arith, nat_tests) in
    let then : nat_le (first + 1) to ≡ true = grind (arith, nat_tests) in
    let last : ℕ = cond (not (p to)) 1 0 in
    let rest = steps-by p (first + 1) to (to - first) (omega arith) then in
    steps-by p first to (suc (to - first)) (omega arith) now
    ∙ (ap (λ k. k + last) (first-of p first (to - first)) ∙ (add_assoc (cond (p first) 1 0) (breaks_among p (first + 1) (to - first)) last ∙ sym (ap (λ k. cond (p first) 1 0 + k) rest)))

steps-on : (p q : ℕ → Bool) (n first to : ℕ) → first + n ≡ to → ((d : ℕ) → d < to → q d ≡ p d) → steps_among p first to ≡ steps_among q first to
steps-on p q zero first to e same =
    let here : first ≡ to = omega (arith, e) in
    subst (λ d. steps_among p d to ≡ steps_among q d to) (sym here) (steps-last p to ∙ sym (steps-last q to))
steps-on p q (suc n) first to e same =
    let low : first < to = omega (arith, e) in
    steps-next p first to low
    ∙ (ap (λ b. cond b 1 0 + steps_among p (first + 1) to) (sym (same first low))
    ∙ (ap (λ k. cond (q first) 1 0 + k) (steps-on p q n (first + 1) to (omega (arith, e)) same) ∙ sym (steps-next q first to low)))

pub steps-same : (p q : ℕ → Bool) (first to : ℕ) → ((d : ℕ) → d < to → q d ≡ p d) → steps_among p first to ≡ steps_among q first to
steps-same p q first to same = by (cases_lt to first)
  where
    by : (to < first) ⊎ (first ≤ to) → steps_among p first to ≡ steps_among q first to
    by (inl l) = spans_are_steps.none p first to l ∙ sym (spans_are_steps.none q first to l)
    by (inr l) = steps-on p q (to - first) first to (omega (arith, l)) same

-- ---- break days
-- by whether some row was issued that day
break-by : (a : Account) (posts : List CorrectedPost) (rows other : List IssuedRow) (index : List IndexRow) (penalties : List Interval) (day : ℕ) → list_any (λ r. eqb r.day day) rows ≡ list_any (λ r. eqb r.day day) other
    → is_break a posts rows index penalties day ≡ is_break a posts other index penalties day
unfolding is_break
break-by a posts rows other index penalties day e = rw e refl

or-true : (b : Bool) → b || true ≡ true
or-true true = refl
or-true false = refl

some-break : (a : Account) (posts : List CorrectedPost) (rows : List IssuedRow) (index : List IndexRow) (penalties : List Interval) (day : ℕ) → list_any (λ r. eqb r.day day) rows ≡ true → is_break a posts rows index penalties day ≡ true
unfolding is_break
some-break a posts rows index penalties day e =
    let before = list_any (λ (p : CorrectedPost). eqb p.day day) posts || (nat_le a.anchor.opened day && eqb (day_of_month day) a.anchor.close_day) || is_due a.anchor (day - 1) in
    let segment = list_any (breaks_segment day) (segments a.anchor a.terms posts) in
    let penalty = list_any (breaks_penalty day) penalties in
    let row = a.variable && nat_lt a.anchor.opened day && list_any (λ (r : IndexRow). eqb r.day day) index in
    ap (λ b. before || b || segment || penalty || row) e ∙ (ap (λ b. b || segment || penalty || row) (or-true before))

other-day : (day x : ℕ) → day < x → eqb x day ≡ false
other-day day x l = grind (arith, nat_tests)

own-day : (x : ℕ) → eqb x x ≡ true
own-day x = grind (arith, nat_tests)

-- rows of later days are no issue day
any-front : (day : ℕ) (made rest : List IssuedRow) → All (λ r. day < r.day) rest → list_any (λ r. eqb r.day day) (made ++ rest) ≡ list_any (λ r. eqb r.day day) made
any-front day made rest later =
    list_any-append (λ (r : IssuedRow). eqb r.day day) made rest
    ∙ (ap (λ b. list_any (λ (r : IssuedRow). eqb r.day day) made || b) (list_any_none (λ (r : IssuedRow). eqb r.day day) rest (All-weaker (λ (r : IssuedRow). day < r.day) (λ (r : IssuedRow). eqb r.day day ≡ false) (λ r l. other-day day r.day l) rest later))
    ∙ or-none (list_any (λ (r : IssuedRow). eqb r.day day) made))
  where
    or-none : (b : Bool) → b || false ≡ b
    or-none true = refl
    or-none false = refl

any-there : (made rest : List IssuedRow) (r : IssuedRow) → list_any (λ x. eqb x.day r.day) (made ++ r ∷ rest) ≡ true
any-there [] rest r = ap (λ b. b || list_any (λ (x : IssuedRow). eqb x.day r.day) rest) (own-day r.day)
any-there (m ∷ made) rest r = ap (λ b. eqb m.day r.day || b) (any-there made rest r) ∙ or-true (eqb m.day r.day)

pub issue_days_are_breaks : IssueDaysAreBreaks
issue_days_are_breaks history made rest shared r on =
    some-break (account_of history) (corrected (anchor_of history) shared.holidays history) (made ++ r ∷ rest) shared.index (book history (made ++ r ∷ rest) shared on).penalties r.day (any-there made rest r)

-- before the day of the first row that isn't made
break-before : (history : List Kept) (made rest : List IssuedRow) (shared : SharedRows) (r : IssuedRow) → AreUnmade history made shared (r ∷ rest) → All (λ x. r.day ≤ x.day) (r ∷ rest) → (d : ℕ) → d < r.day
    → is_break_by history (made ++ r ∷ rest) shared r.day d ≡ is_break_by history made shared r.day d
break-before history made rest shared r h later d l =
    let a = account_of history in
    let posts = corrected (anchor_of history) shared.holidays history in
    ap (λ (b : Book). is_break a posts (made ++ r ∷ rest) shared.index b.penalties d) (unmade_rows_change_no_past_day history made (r ∷ rest) shared r.day h later)
    ∙ break-by a posts (made ++ r ∷ rest) made shared.index (book history made shared r.day).penalties d
    (any-front d made (r ∷ rest) (All-weaker (λ (x : IssuedRow). r.day ≤ x.day) (λ (x : IssuedRow). d < x.day) (λ x m. omega (arith, l, m)) (r ∷ rest) later))

pub steps_to_the_first : StepsToTheFirst
steps_to_the_first history made rest shared r first h later =
    steps-same (is_break_by history made shared r.day) (is_break_by history (made ++ r ∷ rest) shared r.day) first r.day (break-before history made rest shared r h later)
