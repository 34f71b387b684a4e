-- Over days without a break day rates stay.
use Rattle.std.proofs.Common.{zero, ◌+◌, ◌-◌, ◌≡◌, ℕ, suc, ◌<◌, ◌≤◌, max, Bool, true, false, cond, ◌&&◌, ◌||◌, not, List, [], ◌∷◌, refl, sym, ap, ◌∙◌, arith, eqb, leb, ltb, inl, inr, ◌⊎◌, Option, Some, None}
use Rattle.std.proofs.lemmas.List.Elements.{All-weaker, All-nil, All-cons, All-head, All-tail, All-contains}
use Rattle.std.proofs.lemmas.Bool.Decides.{nat_tests}
use Rattle.std.proofs.lemmas.Bool.{cases_lt}
use Rattle.std.specs.Prelude.{unwrap_or}
use Rattle.std.specs.Option.{option_map}
use Rattle.std.specs.List.{All, Contains, cons_option, filter_map, fold, list_any}
use Rattle.card_events.specs.Business.{is_due}
use Rattle.card_events.specs.Civil.{day_of_month}
use Rattle.card_events.specs.History.{CorrectedPost, anchor_of, corrected, is_variable, terms_of}
use Rattle.card_events.specs.SharedRows.{IndexRow, SharedRows}
use Rattle.card_events.specs.declared.kept.Kept.{Kept}
use Rattle.card_model.proofs.Accepting.{or-false}
use Rattle.card_model.specs.Books.{Account, account_of}
use Rattle.card_model.specs.Breaks.{breaks_penalty, breaks_segment, is_break, is_day_after, is_on}
use Rattle.card_model.specs.Cycles.{IssuedRow}
use Rattle.card_model.specs.Rates.{Begun, Lowering, accrual_rate, after_end, bears_as, bears_in, begun_of, capped, index_for, lowered_by, lowering_of, lowerings, own, period_rate, rate_on, start_of, starts, with_penalty}
use Rattle.card_model.specs.Segments.{SegmentTerms, id_of, is_over, is_plan, is_sort, last_that, newest, segments}
use Rattle.card_model.specs.declared.segment.Interval.{Interval}
use Rattle.card_model.specs.declared.segment.Sort.{Sort}
use Rattle.card_model.specs.declared.segment.Sort.TheVariants as sort
use Rattle.card_rates.specs.Laws.{AreQuiet, SpansKeepRates}
use Rattle.card_rates.specs.RateBooks.{rate_of, rates_of}
use Rattle.card_rates.proofs.LaterPosts.{AreDated, corrected-dated, fold-same, lowering-day, no-leb, own_day, yes-leb}

-- nothing begins on the day, and no plan or penalty ended on the day before
record IsRateQuiet (corrected_posts : List CorrectedPost) (all : List SegmentTerms) (intervals : List Interval) (day : ℕ) : Type 0 where
  pub posts : All (λ p. p.day ≡ day → ⊥) corrected_posts
  pub begins : All (λ g. g.begins ≡ day → ⊥) all
  pub effective : All (λ g. g.effective ≡ day → ⊥) all
  pub ends : All (λ g. (end : ℕ) → g.ends ≡ Some end → suc end ≡ day → ⊥) all
  pub penalties : All (λ i. i.begins ≡ day → ⊥) intervals
  pub lasts : All (λ i. (last : ℕ) → i.last ≡ Some last → suc last ≡ day → ⊥) intervals

-- ---- tests that a day and the next give alike
leb-next : (n x : ℕ) → (n ≡ suc x → ⊥) → leb n (suc x) ≡ leb n x
leb-next n x h = by (cases_lt x n)
  where
    by : (x < n) ⊎ (n ≤ x) → leb n (suc x) ≡ leb n x
    by (inl l) = let far : suc x < n = omega (arith, h) in no-leb n (suc x) far ∙ sym (no-leb n x l)
    by (inr l) = yes-leb n (suc x) (omega arith) ∙ sym (yes-leb n x l)

leb-before : (n x : ℕ) → (n ≡ x → ⊥) → leb (suc x) n ≡ leb x n
leb-before n x h = by (cases_lt n x)
  where
    by : (n < x) ⊎ (x ≤ n) → leb (suc x) n ≡ leb x n
    by (inl l) = no-leb (suc x) n (omega arith) ∙ sym (no-leb x n l)
    by (inr l) = let far : suc x ≤ n = omega (arith, h) in yes-leb (suc x) n far ∙ sym (yes-leb x n l)

over-next : (last x : ℕ) → (suc last ≡ suc x → ⊥) → leb (suc x) last ≡ leb x last
over-next last x h = leb-before last x (λ e. h (ap suc e))

ltb-next : (n x : ℕ) → (n ≡ suc x → ⊥) → ltb (suc x) n ≡ ltb x n
ltb-next n x h = leb-before n (suc x) h

ended-next : (end x : ℕ) → (suc end ≡ suc x → ⊥) → ltb end (suc x) ≡ ltb end x
ended-next end x h = leb-next (suc end) x h

-- ---- Lowers
abbrev IsOtherDay : ℕ → Lowering → Type 0
IsOtherDay x l = l.day ≡ x → ⊥

lowerings-other : (x : ℕ) (posts : List CorrectedPost) → AreDated posts → All (λ s. s.day ≡ x → ⊥) posts → All (IsOtherDay x) (lowerings posts)
unfolding lowerings
lowerings-other x [] h q = All-nil (IsOtherDay x)
lowerings-other x (t ∷ ts) h q =
    by (lowering_of t.post) refl (lowerings-other x ts (All-tail (λ (s : CorrectedPost). own_day s.post s.day) t ts h) (All-tail (λ (s : CorrectedPost). s.day ≡ x → ⊥) t ts q))
  where
    by : (o : Option Lowering) → lowering_of t.post ≡ o → All (IsOtherDay x) (filter_map (λ s. lowering_of s.post) ts) → All (IsOtherDay x) (cons_option o (filter_map (λ s. lowering_of s.post) ts))
    by None e ih = ih
    by (Some l) e ih =
        let d = lowering-day t.post l t.day e (All-head (λ (s : CorrectedPost). own_day s.post s.day) t ts h) in
        All-cons (IsOtherDay x) l _ (λ same. All-head (λ (s : CorrectedPost). s.day ≡ x → ⊥) t ts q (sym d ∙ same)) ih

lowers-next : (s : Sort) (from x r : ℕ) (ls : List Lowering) → All (IsOtherDay (suc x)) ls → fold (lowered_by s from (suc x)) r ls ≡ fold (lowered_by s from x) r ls
lowers-next s from x r [] q = refl
lowers-next s from x r (l ∷ ls) q = rw (leb-next l.day x (All-head (IsOtherDay (suc x)) l ls q)) (lowers-next s from x (lowered_by s from x r l) ls (All-tail (IsOtherDay (suc x)) l ls q))

capped-next : (s : Sort) (x : ℕ) (b : Begun) (ls : List Lowering) → All (IsOtherDay (suc x)) ls → capped ls s (suc x) b ≡ capped ls s x b
unfolding capped
capped-next s x b ls q = lowers-next s b.from x b.rate ls q

-- ---- vintages
vintage-next : (s : Sort) (id x : ℕ) (all : List SegmentTerms) → All (λ v. v.begins ≡ suc x → ⊥) all → All (λ v. v.effective ≡ suc x → ⊥) all → last_that (bears_in (suc x) s id) all ≡ last_that (bears_in x s id) all
vintage-next s id x [] h q = refl
vintage-next s id x (v ∷ vs) h q =
    let b = leb-next v.begins x (All-head (λ (v : SegmentTerms). v.begins ≡ suc x → ⊥) v vs h) in
    let e = leb-next v.effective x (All-head (λ (v : SegmentTerms). v.effective ≡ suc x → ⊥) v vs q) in
    let rest = vintage-next s id x vs (All-tail (λ (v : SegmentTerms). v.begins ≡ suc x → ⊥) v vs h) (All-tail (λ (v : SegmentTerms). v.effective ≡ suc x → ⊥) v vs q) in
    rw (b, e, rest) refl

own-next : (index : Option ℕ) (x : ℕ) (g : SegmentTerms) (all : List SegmentTerms) → All (λ v. v.begins ≡ suc x → ⊥) all → All (λ v. v.effective ≡ suc x → ⊥) all → own index all (suc x) g ≡ own index all x g
own-next index x g all h q = ap (λ q. cond (is_plan g) (record { rate = g.after; from = after_end g.ends }) (begun_of index q)) (vintage-next g.sort g.id x all h q)

-- ---- penalties
start-next : (x : ℕ) (i : Interval) (l : Option ℕ) → i.last ≡ l → (i.begins ≡ suc x → ⊥) → ((last : ℕ) → l ≡ Some last → suc last ≡ suc x → ⊥) → start_of (suc x) i ≡ start_of x i
start-next x i None e h q = rw (e, leb-next i.begins x h) refl
start-next x i (Some last) e h q = rw (e, leb-next i.begins x h, over-next last x (q last refl)) refl

starts-next : (x : ℕ) (is : List Interval) → All (λ i. i.begins ≡ suc x → ⊥) is → All (λ i. (last : ℕ) → i.last ≡ Some last → suc last ≡ suc x → ⊥) is → starts (suc x) is ≡ starts x is
unfolding starts
starts-next x [] h q = refl
starts-next x (i ∷ is) h q =
    ap (λ o. cons_option o (filter_map (start_of (suc x)) is)) (start-next x i i.last refl (All-head (λ (i : Interval). i.begins ≡ suc x → ⊥) i is h) (All-head (λ (i : Interval). (last : ℕ) → i.last ≡ Some last → suc last ≡ suc x → ⊥) i is q))
    ∙ ap (cons_option (start_of x i)) (starts-next x is (All-tail (λ (i : Interval). i.begins ≡ suc x → ⊥) i is h) (All-tail (λ (i : Interval). (last : ℕ) → i.last ≡ Some last → suc last ≡ suc x → ⊥) i is q))

-- ---- the rate
is_over-next : (x : ℕ) (o : Option ℕ) → ((end : ℕ) → o ≡ Some end → suc end ≡ suc x → ⊥) → is_over o (suc x) ≡ is_over o x
is_over-next x None h = refl
is_over-next x (Some end) h = ended-next end x (h end refl)

rate-next : (index : Option ℕ) (penalty x : ℕ) (g : SegmentTerms) (posts : List CorrectedPost) (all : List SegmentTerms) (is : List Interval) → AreDated posts → Contains all g → IsRateQuiet posts all is (suc x)
    → rate_on index (lowerings posts) penalty (starts (suc x) is) all (suc x) g ≡ rate_on index (lowerings posts) penalty (starts x is) all x g
unfolding rate_on
rate-next index penalty x g posts all is h c q =
    let capped' = λ (b : Begun). capped-next (bears_as g) x b (lowerings posts) (lowerings-other (suc x) posts h q.posts) in
    let base : capped (lowerings posts) (bears_as g) (suc x) (own index all (suc x) g) ≡ capped (lowerings posts) (bears_as g) x (own index all x g) =
    ap (capped (lowerings posts) (bears_as g) (suc x)) (own-next index x g all q.begins q.effective) ∙ capped' (own index all x g) in
    let whole : fold (with_penalty (lowerings posts) penalty (bears_as g) (suc x)) (capped (lowerings posts) (bears_as g) (suc x) (own index all (suc x) g)) (starts (suc x) is) ≡ fold (with_penalty (lowerings posts) penalty (bears_as g) x) (capped (lowerings posts) (bears_as g) x (own index all x g)) (starts x is) =
    ap (fold (with_penalty (lowerings posts) penalty (bears_as g) (suc x)) (capped (lowerings posts) (bears_as g) (suc x) (own index all (suc x) g))) (starts-next x is q.penalties q.lasts)
    ∙ (fold-same (with_penalty (lowerings posts) penalty (bears_as g) (suc x)) (with_penalty (lowerings posts) penalty (bears_as g) x) (λ r i. ap (max r) (capped' (record { rate = penalty; from = i }))) _ (starts x is)
    ∙ ap (λ r. fold (with_penalty (lowerings posts) penalty (bears_as g) x) r (starts x is)) base) in
    let begins : g.begins ≡ suc x → ⊥ = All-contains (λ (v : SegmentTerms). v.begins ≡ suc x → ⊥) all g q.begins c in
    let ends = All-contains (λ (v : SegmentTerms). (end : ℕ) → v.ends ≡ Some end → suc end ≡ suc x → ⊥) all g q.ends c in
    let early : ltb (suc x) g.begins ≡ ltb x g.begins = ltb-next g.begins x begins in
    let over : is_over g.ends (suc x) ≡ is_over g.ends x = is_over-next x g.ends ends in
    let late = fold (with_penalty (lowerings posts) penalty (bears_as g) (suc x)) (capped (lowerings posts) (bears_as g) (suc x) (own index all (suc x) g)) (starts (suc x) is) in
    ap (λ t. cond (is_plan g && t) 0 (cond (is_plan g && not (is_over g.ends (suc x))) (period_rate g) late)) early
    ∙ (ap (λ t. cond (is_plan g && ltb x g.begins) 0 (cond (is_plan g && not t) (period_rate g) late)) over
    ∙ ap (λ r. cond (is_plan g && ltb x g.begins) 0 (cond (is_plan g && not (is_over g.ends x)) (period_rate g) r)) whole)

other : (m n : ℕ) → eqb m n ≡ false → m ≡ n → ⊥
other m n h e = grind (arith, nat_tests)

none-any : {X : Type 0} (q : X → Bool) (xs : List X) → list_any q xs ≡ false → All (λ x. q x ≡ false) xs
none-any q [] h = All-nil (λ x. q x ≡ false)
none-any q (x ∷ xs) h = let parts = or-false (q x) (list_any q xs) h in All-cons (λ x. q x ≡ false) x xs parts.0 (none-any q xs parts.1)

record Parts (a : Account) (corrected_posts : List CorrectedPost) (rows : List IndexRow) (intervals : List Interval) (day : ℕ) : Type 0 where
  pub posts : list_any (λ p. eqb p.day day) corrected_posts ≡ false
  pub added : list_any (breaks_segment day) (segments a.anchor a.terms corrected_posts) ≡ false
  pub penalties : list_any (breaks_penalty day) intervals ≡ false
  pub index : (a.variable && ltb a.anchor.opened day && list_any (λ r. eqb r.day day) rows) ≡ false

parts : (a : Account) (posts : List CorrectedPost) (issued : List IssuedRow) (rows : List IndexRow) (penalties : List Interval) (day : ℕ) → is_break a posts issued rows penalties day ≡ false → Parts a posts rows penalties day
unfolding is_break
parts a posts issued rows penalties day h =
    let z = or-false _ (a.variable && ltb a.anchor.opened day && list_any (λ r. eqb r.day day) rows) h in
    let p = or-false _ (list_any (breaks_penalty day) penalties) z.0 in
    let s = or-false _ (list_any (breaks_segment day) (segments a.anchor a.terms posts)) p.0 in
    let i = or-false _ (list_any (λ r. eqb r.day day) issued) s.0 in
    let d = or-false _ (is_due a.anchor (day - 1)) i.0 in
    let c = or-false (list_any (λ p. eqb p.day day) posts) (leb a.anchor.opened day && eqb (day_of_month day) a.anchor.close_day) d.0 in
    record { posts = c.0; added = s.1; penalties = p.1; index = z.1 }

ends-other : (day : ℕ) (o : Option ℕ) → is_on day o ≡ false → (end : ℕ) → o ≡ Some end → suc end ≡ suc day → ⊥
ends-other day None h end e same = cc
ends-other day (Some n) h end e same = let is : n ≡ end = cc in other n day h (omega (arith, is, same))

lasts-other : (day : ℕ) (o : Option ℕ) → is_day_after day o ≡ false → (last : ℕ) → o ≡ Some last → suc last ≡ day → ⊥
lasts-other day None h last e same = cc
lasts-other day (Some n) h last e same = let is : n ≡ last = cc in other (n + 1) day h (omega (arith, is, same))

-- two days one after the other, neither of which is a break day
rate-quiet : (a : Account) (posts : List CorrectedPost) (issued : List IssuedRow) (rows : List IndexRow) (penalties : List Interval) (x : ℕ) → is_break a posts issued rows penalties x ≡ false → is_break a posts issued rows penalties (suc x) ≡ false
    → IsRateQuiet posts (segments a.anchor a.terms posts) penalties (suc x)
rate-quiet a posts issued rows penalties x h g =
    let before = parts a posts issued rows penalties x h in
    let after = parts a posts issued rows penalties (suc x) g in
    let all = segments a.anchor a.terms posts in
    let none = none-any (breaks_segment (suc x)) all after.added in
    let ended = none-any (breaks_segment x) all before.added in
    let begun = none-any (breaks_penalty (suc x)) penalties after.penalties in
    record {
      posts = All-weaker (λ (p : CorrectedPost). eqb p.day (suc x) ≡ false) (λ p. p.day ≡ suc x → ⊥) (λ p. other p.day (suc x)) posts (none-any (λ (p : CorrectedPost). eqb p.day (suc x)) posts after.posts);
      begins = All-weaker (λ (v : SegmentTerms). breaks_segment (suc x) v ≡ false) (λ v. v.begins ≡ suc x → ⊥) (λ v h. begins-other v (segment-parts (suc x) v h)) all none;
      effective = All-weaker (λ (v : SegmentTerms). breaks_segment (suc x) v ≡ false) (λ v. v.effective ≡ suc x → ⊥) (λ v h. other v.effective (suc x) (segment-parts (suc x) v h).1) all none;
      ends = All-weaker (λ (v : SegmentTerms). breaks_segment x v ≡ false) (λ v. (end : ℕ) → v.ends ≡ Some end → suc end ≡ suc x → ⊥) (λ v h. ends-other x v.ends (segment-parts x v h).0.0) all ended;
      penalties = All-weaker (λ (i : Interval). breaks_penalty (suc x) i ≡ false) (λ i. i.begins ≡ suc x → ⊥) (λ i h. other i.begins (suc x) (or-false (eqb i.begins (suc x)) (is_day_after (suc x) i.last) h).0) penalties begun;
      lasts = All-weaker (λ (i : Interval). breaks_penalty (suc x) i ≡ false) (λ i. (last : ℕ) → i.last ≡ Some last → suc last ≡ suc x → ⊥) (λ i h. lasts-other (suc x) i.last (or-false (eqb i.begins (suc x)) (is_day_after (suc x) i.last) h).1) penalties begun;
    }
  where
    segment-parts : (d : ℕ) (v : SegmentTerms) → breaks_segment d v ≡ false → ((is_on d v.ends ≡ false) × (eqb v.begins d ≡ false)) × (eqb v.effective d ≡ false)
    segment-parts d v h =
        let last = or-false (is_on d v.ends || eqb v.begins d) (eqb v.effective d) h in
        (or-false (is_on d v.ends) (eqb v.begins d) last.0, last.1)

    begins-other : (v : SegmentTerms) → ((is_on (suc x) v.ends ≡ false) × (eqb v.begins (suc x) ≡ false)) × (eqb v.effective (suc x) ≡ false) → v.begins ≡ suc x → ⊥
    begins-other v h = other v.begins (suc x) h.0.1

-- ---- what stays from one day to the next
accrual-next : (x : ℕ) (g : SegmentTerms) (posts : List CorrectedPost) (all : List SegmentTerms) (is : List Interval) → Contains all g → IsRateQuiet posts all is (suc x) → accrual_rate (suc x) g ≡ accrual_rate x g
accrual-next x g posts all is c q =
    let begins : g.begins ≡ suc x → ⊥ = All-contains (λ (v : SegmentTerms). v.begins ≡ suc x → ⊥) all g q.begins c in
    let ends = All-contains (λ (v : SegmentTerms). (end : ℕ) → v.ends ≡ Some end → suc end ≡ suc x → ⊥) all g q.ends c in
    ap (λ t. cond (is_sort sort.Deferred g.sort && t && not (is_over g.ends (suc x))) (Some g.rate) None) (leb-next g.begins x begins)
    ∙ ap (λ t. cond (is_sort sort.Deferred g.sort && leb g.begins x && not t) (Some g.rate) None) (is_over-next x g.ends ends)

newest-next : (s : Sort) (x : ℕ) (all : List SegmentTerms) → All (λ v. v.begins ≡ suc x → ⊥) all → last_that (λ g. is_sort s g.sort && leb g.begins (suc x)) all ≡ last_that (λ g. is_sort s g.sort && leb g.begins x) all
newest-next s x [] h = refl
newest-next s x (v ∷ vs) h =
    let b = leb-next v.begins x (All-head (λ (v : SegmentTerms). v.begins ≡ suc x → ⊥) v vs h) in
    let rest = newest-next s x vs (All-tail (λ (v : SegmentTerms). v.begins ≡ suc x → ⊥) v vs h) in
    rw (b, rest) refl

-- ---- the index
-- the last row up to a day is that up to the day before, where no row is of the day
row-next : (x : ℕ) (rows : List IndexRow) → All (λ r. r.day ≡ suc x → ⊥) rows → last_that (λ r. leb r.day (suc x)) rows ≡ last_that (λ r. leb r.day x) rows
row-next x [] h = refl
row-next x (r ∷ rs) h =
    let b = leb-next r.day x (All-head (λ (r : IndexRow). r.day ≡ suc x → ⊥) r rs h) in
    let rest = row-next x rs (All-tail (λ (r : IndexRow). r.day ≡ suc x → ⊥) r rs h) in
    rw (b, rest) refl

index-next : (variable : Bool) (rows : List IndexRow) (opened x : ℕ) → (variable ≡ true → opened ≤ x) → (variable && ltb opened (suc x) && list_any (λ r. eqb r.day (suc x)) rows) ≡ false → index_for variable rows (suc x) ≡ index_for variable rows x
index-next false rows opened x l h = refl
index-next true rows opened x l h =
    let low = l refl in
    let after : ltb opened (suc x) ≡ true = grind (arith, nat_tests) in
    let none : list_any (λ (r : IndexRow). eqb r.day (suc x)) rows ≡ false = ap (λ t. t && list_any (λ (r : IndexRow). eqb r.day (suc x)) rows) (sym after) ∙ h in
    ap (λ o. Some (unwrap_or (option_map (λ (r : IndexRow). r.rate) o) 0))
    (row-next x rows (All-weaker (λ (r : IndexRow). eqb r.day (suc x) ≡ false) (λ r. r.day ≡ suc x → ⊥) (λ r. other r.day (suc x)) rows (none-any (λ (r : IndexRow). eqb r.day (suc x)) rows none)))

-- ---- spans
-- what is the same on each day as on the day before it is the same on all
span : {A : Type 0} (f : ℕ → A) (first days : ℕ) → ((x : ℕ) → first ≤ x → suc x < first + days → f (suc x) ≡ f x) → (i : ℕ) → i < days → f (first + i) ≡ f first
span f first days h zero l = let e : first + 0 ≡ first = omega arith in ap f e
span f first days h (suc i) l =
    let e : first + suc i ≡ suc (first + i) = omega arith in
    ap f e ∙ (h (first + i) (omega arith) (omega arith) ∙ span f first days h i (omega arith))

quiet-at : (history : List Kept) (issued : List IssuedRow) (shared : SharedRows) (penalties : List Interval) (first days : ℕ) → AreQuiet history issued shared penalties first days → (x : ℕ) → first ≤ x → x < first + days
    → is_break (account_of history) (corrected (anchor_of history) shared.holidays history) issued shared.index penalties x ≡ false
quiet-at history issued shared penalties first days q x l h =
    let e : first + (x - first) ≡ x = omega arith in
    ap (is_break (account_of history) (corrected (anchor_of history) shared.holidays history) issued shared.index penalties) (sym e) ∙ q (x - first) (omega arith)

quiet-next : (history : List Kept) (issued : List IssuedRow) (shared : SharedRows) (penalties : List Interval) (first days : ℕ) → AreQuiet history issued shared penalties first days → (x : ℕ) → first ≤ x → suc x < first + days
    → IsRateQuiet (corrected (anchor_of history) shared.holidays history) (rates_of shared.holidays history penalties).segments penalties (suc x)
quiet-next history issued shared penalties first days q x l h =
    rate-quiet (account_of history) (corrected (anchor_of history) shared.holidays history) issued shared.index penalties x
    (quiet-at history issued shared penalties first days q x l (omega arith)) (quiet-at history issued shared penalties first days q (suc x) (omega arith) h)

index-after : (history : List Kept) (issued : List IssuedRow) (shared : SharedRows) (penalties : List Interval) (first days : ℕ) → (is_variable history ≡ true → (anchor_of history).opened ≤ first) → AreQuiet history issued shared penalties first days → (x : ℕ) → first ≤ x → suc x < first + days
    → index_for (is_variable history) shared.index (suc x) ≡ index_for (is_variable history) shared.index x
index-after history issued shared penalties first days low q x l h =
    index-next (is_variable history) shared.index (anchor_of history).opened x (λ follows. let m = low follows in omega (arith, m, l))
    (parts (account_of history) (corrected (anchor_of history) shared.holidays history) issued shared.index penalties (suc x) (quiet-at history issued shared penalties first days q (suc x) (omega arith) h)).index

pub spans_keep_rates : SpansKeepRates
spans_keep_rates = record {
  rates = λ history issued shared penalties first days i g low q l c.
      let posts = corrected (anchor_of history) shared.holidays history in
      let all = (rates_of shared.holidays history penalties).segments in
      let began = λ (x : ℕ). starts x penalties in
      span (λ x. rate_of shared.index (rates_of shared.holidays history penalties) x g) first days
      (λ x m h.
      ap (λ index. rate_on index (lowerings posts) (terms_of history).penalty (began (suc x)) all (suc x) g) (index-after history issued shared penalties first days low q x m h)
      ∙ rate-next (index_for (is_variable history) shared.index x) (terms_of history).penalty x g posts all penalties (corrected-dated (anchor_of history) shared.holidays history) c (quiet-next history issued shared penalties first days q x m h)) i l;
  accruals = λ history issued shared penalties first days i g q l c.
      let posts = corrected (anchor_of history) shared.holidays history in
      let all = (rates_of shared.holidays history penalties).segments in
      span (λ x. accrual_rate x g) first days (λ x m h. accrual-next x g posts all penalties c (quiet-next history issued shared penalties first days q x m h)) i l;
  vintages = λ history issued shared penalties first days i s q l.
      let all = (rates_of shared.holidays history penalties).segments in
      span (λ x. newest s x all) first days (λ x m h. ap id_of (newest-next s x all (quiet-next history issued shared penalties first days q x m h).begins)) i l;
}
