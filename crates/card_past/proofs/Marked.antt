-- What is kept of a closing that was just folded is its mark.
use Rattle.std.proofs.Common.{◌≡◌, ℕ, zero, suc, ◌+◌, ◌-◌, ◌<◌, ◌≤◌, ◌⊎◌, inl, inr, Bool, true, false, cond, List, [], ◌∷◌, ◌++◌, length, length-append, map, get_or, refl, sym, ap, ◌∙◌, subst, arith, Some, None, eq-eqb, leb}
use Rattle.std.specs.Prelude.{◌==◌, ◌&&◌, is_some}
use Rattle.std.specs.List.{All, Contains, filter, find}
use Rattle.std.proofs.lemmas.Bool.{and_right, cases_lt, eqb-false, eqb-true}
use Rattle.std.proofs.lemmas.Bool.Decides.{nat_tests}
use Rattle.std.proofs.lemmas.List.Elements.{All-cons, All-contains, All-filter, All-head, All-nil, All-tail}
use Rattle.card_book.proofs.MarksGoOn.{placed}
use Rattle.card_dayend.proofs.RowsOfADay.{deferred-by}
use Rattle.card_closing.proofs.Accruing.{accrual_of_a_book}
use Rattle.card_closing.specs.Accruals.{Accrued, nothing_accrued}
use Rattle.card_model.specs.Books.{Book}
use Rattle.card_model.specs.Cycles.{Cycle}
use Rattle.card_model.specs.Interest.{accrual}
use Rattle.card_model.specs.Rates.{accrual_rate}
use Rattle.card_model.specs.Segments.{SegmentTerms, is_over, is_sort}
use Rattle.card_model.specs.declared.segment.Sort.TheVariants as sort
use Rattle.card_rates.specs.RateBooks.{AreByNumber, Rates}
use Rattle.card_rates.proofs.ByNumber.{number-below}
use Rattle.card_daily.specs.Given.{Given, book_on, opened_in, seen_in}
use Rattle.card_daily.specs.Stands.{HaveAccrued}
use Rattle.card_daily.specs.declared.state.State.{State}
use Rattle.card_daily.specs.declared.track.Track.{Track}
use Rattle.card_book.proofs.Marking.{accrued-found, accrued-none, is_kept_of}
use Rattle.card_book.proofs.MarksGrow.{marks_grow}
use Rattle.card_book.proofs.Rewinding.{numbered-in}
use Rattle.card_book.proofs.Told.{accruals-on}
use Rattle.card_book.specs.Marks.{AreMarks, IsMark, accrued_at, accrued_by, accruing_of, accruing_on, rated_in}
use Rattle.card_book.specs.Stands.{StandsFor, Summary, since_through}
use Rattle.card_book.specs.declared.marks.Accruing.{Accruing}
use Rattle.card_past.specs.Foldings.{ClosesLast, HasMarks}
use Rattle.card_past.specs.declared.past.Past.{Past}

-- ---- lists
all-here : {A : Type 0} (P : A → Type 0) (xs : List A) → ((x : A) → Contains xs x → P x) → All P xs
all-here P [] h = All-nil P
all-here P (x ∷ xs) h = All-cons P x xs (h x (0, omega arith, refl)) (all-here P xs (λ y c. h y (suc c.0, let l = c.1 in omega arith, c.2)))

all-mapped : {A B : Type 0} (P : B → Type 0) (f : A → B) (xs : List A) → All (λ x. P (f x)) xs → All P (map f xs)
all-mapped P f [] h = All-nil P
all-mapped P f (x ∷ xs) h = All-cons P (f x) (map f xs) (All-head (λ x. P (f x)) x xs h) (all-mapped P f xs (All-tail (λ x. P (f x)) x xs h))

all-at : {A : Type 0} (P : A → Type 0) (xs : List A) (i : ℕ) (d : A) → P d → All P xs → P (get_or xs i d)
all-at P [] i d none h = none
all-at P (x ∷ xs) zero d none h = All-head P x xs h
all-at P (x ∷ xs) (suc i) d none h = all-at P xs i d none (All-tail P x xs h)

-- ---- what is found of a segment
abbrev accrues_on : ℕ → SegmentTerms → Bool
accrues_on day t = is_some (accrual_rate day t)

-- what was kept of some segments
abbrev kept_of : ℕ → List Accrued → List SegmentTerms → List Accruing
kept_of cycle accruals ts = map (accruing_of cycle accruals) ts

abbrev Found : ℕ → ℕ → List Accrued → List SegmentTerms → Type 0
Found cycle segment accruals ts = (t : SegmentTerms) × (t.id ≡ segment) × (find (is_kept_of cycle segment) (kept_of cycle accruals ts) ≡ Some (accruing_of cycle accruals t))

-- none of these that passes has the number
abbrev PassNot : (SegmentTerms → Bool) → ℕ → List SegmentTerms → Type 0
PassNot p segment ts = All (λ (t : SegmentTerms). t.id ≡ segment → p t ≡ false) ts

abbrev Unfound : ℕ → ℕ → List Accrued → List SegmentTerms → Type 0
Unfound cycle segment accruals ts = find (is_kept_of cycle segment) (kept_of cycle accruals ts) ≡ None

found-first : (cycle segment : ℕ) (accruals : List Accrued) (t : SegmentTerms) (ts : List SegmentTerms) → t.id ≡ segment
    → find (is_kept_of cycle segment) (kept_of cycle accruals (t ∷ ts)) ≡ Some (accruing_of cycle accruals t)
found-first cycle segment accruals t ts e =
    let one = eq-eqb cycle cycle refl in
    let other = eq-eqb t.id segment e in
    let here : (cycle == cycle) && (t.id == segment) ≡ true = rw (one, other) refl in
    subst (λ b. cond b (Some (accruing_of cycle accruals t)) (find (is_kept_of cycle segment) (kept_of cycle accruals ts)) ≡ Some (accruing_of cycle accruals t)) (sym here) refl

passed-first : (cycle segment : ℕ) (accruals : List Accrued) (t : SegmentTerms) (ts : List SegmentTerms) → (t.id == segment) ≡ false
    → find (is_kept_of cycle segment) (kept_of cycle accruals (t ∷ ts)) ≡ find (is_kept_of cycle segment) (kept_of cycle accruals ts)
passed-first cycle segment accruals t ts e =
    let here : (cycle == cycle) && (t.id == segment) ≡ false = and_right (cycle == cycle) (t.id == segment) e in
    let rest = find (is_kept_of cycle segment) (kept_of cycle accruals ts) in
    subst (λ b. cond b (Some (accruing_of cycle accruals t)) rest ≡ rest) (sym here) refl

find-kept : (p : SegmentTerms → Bool) (cycle segment : ℕ) (accruals : List Accrued) (ts : List SegmentTerms)
    → Found cycle segment accruals (filter p ts) ⊎ (Unfound cycle segment accruals (filter p ts) × PassNot p segment ts)
find-kept p cycle segment accruals [] = inr (refl, All-nil (λ (t : SegmentTerms). t.id ≡ segment → p t ≡ false))
find-kept p cycle segment accruals (t ∷ ts) = by (p t) refl (t.id == segment) refl (find-kept p cycle segment accruals ts)
  where
    by : (s : Bool) → p t ≡ s → (u : Bool) → (t.id == segment) ≡ u → Found cycle segment accruals (filter p ts) ⊎ (Unfound cycle segment accruals (filter p ts) × PassNot p segment ts)
        → Found cycle segment accruals (cond s (t ∷ filter p ts) (filter p ts)) ⊎ (Unfound cycle segment accruals (cond s (t ∷ filter p ts) (filter p ts)) × PassNot p segment (t ∷ ts))
    by false e u f (inl h) = inl h
    by false e u f (inr h) = inr (h.0, All-cons (λ (x : SegmentTerms). x.id ≡ segment → p x ≡ false) t ts (λ same. e) h.1)
    by true e true f h = inl (t, eqb-true t.id segment f, found-first cycle segment accruals t (filter p ts) (eqb-true t.id segment f))
    by true e false f (inl h) = inl (h.0, h.1, passed-first cycle segment accruals t (filter p ts) f ∙ h.2)
    by true e false f (inr h) =
        inr (passed-first cycle segment accruals t (filter p ts) f ∙ h.0, All-cons (λ (x : SegmentTerms). x.id ≡ segment → p x ≡ false) t ts (λ same. absurd (eqb-false t.id segment f same)) h.1)

-- ---- what has accrued by then
-- of a plan that isn't kept nothing has: its period hasn't begun
not-yet : (g : Given) (day : ℕ) (b : Book) (t : SegmentTerms) → is_sort sort.Deferred t.sort ≡ true → is_over t.ends day ≡ false → accrues_on day t ≡ false → accrual (seen_in g day) b t ≡ 0
not-yet g day b t kind open' none = by (cases_lt day t.begins)
  where
    begun : t.begins ≤ day → accrues_on day t ≡ true
    begun l =
        let q : leb t.begins day ≡ true = grind (arith, nat_tests) in
        ap (λ d. is_some (cond d (Some t.rate) None)) (deferred-by t day true kind open' q)

    by : (day < t.begins) ⊎ (t.begins ≤ day) → accrual (seen_in g day) b t ≡ 0
    by (inl l) = sym (accrual_of_a_book.sum (seen_in g day) b t) ∙ ap (λ (a : Accrued). a.sum) (accrual_of_a_book.begins (seen_in g day) b t (omega (arith, l)))
    by (inr l) = let no : false ≡ true = sym none ∙ begun l in absurd (cc)

kept-sum : (g : Given) (day k : ℕ) (b : Book) (accruals : List Accrued) (ts : List SegmentTerms) (t : SegmentTerms) → HaveAccrued g day b ts accruals → Contains ts t
    → is_sort sort.Deferred t.sort ≡ true → is_over t.ends day ≡ false → (accrued_at k (kept_of k accruals (filter (accrues_on day) ts)) t.id).sum ≡ accrual (seen_in g day) b t
kept-sum g day k b accruals ts t h is kind open' = by (find-kept (accrues_on day) k t.id accruals ts)
  where
    by : Found k t.id accruals (filter (accrues_on day) ts) ⊎ (Unfound k t.id accruals (filter (accrues_on day) ts) × PassNot (accrues_on day) t.id ts)
        → (accrued_at k (kept_of k accruals (filter (accrues_on day) ts)) t.id).sum ≡ accrual (seen_in g day) b t
    by (inl (x, number, found)) =
        let kept = kept_of k accruals (filter (accrues_on day) ts) in
        ap (λ (a : Accrued). a.sum) (sym (accrued-found k t.id kept (accruing_of k accruals x) found))
        ∙ (ap (λ n. (get_or accruals (n - 2) nothing_accrued).sum) number ∙ h.sums t is kind open')
    by (inr (none, passes)) =
        let kept = kept_of k accruals (filter (accrues_on day) ts) in
        let late = All-contains (λ (x : SegmentTerms). x.id ≡ t.id → accrues_on day x ≡ false) ts t passes is refl in
        ap (λ (a : Accrued). a.sum) (sym (accrued-none k t.id kept none)) ∙ sym (not-yet g day b t kind open' late)

kept-days : (limit day k s : ℕ) (accruals : List Accrued) (ts : List SegmentTerms) → All (λ (a : Accrued). a.days ≤ limit) accruals
    → (accrued_at k (kept_of k accruals (filter (accrues_on day) ts)) s).days ≤ limit
kept-days limit day k s accruals ts h = by (find-kept (accrues_on day) k s accruals ts)
  where
    by : Found k s accruals (filter (accrues_on day) ts) ⊎ (Unfound k s accruals (filter (accrues_on day) ts) × PassNot (accrues_on day) s ts)
        → (accrued_at k (kept_of k accruals (filter (accrues_on day) ts)) s).days ≤ limit
    by (inl (x, number, found)) =
        let kept = kept_of k accruals (filter (accrues_on day) ts) in
        subst (λ (a : Accrued). a.days ≤ limit) (accrued-found k s kept (accruing_of k accruals x) found)
        (all-at (λ (a : Accrued). a.days ≤ limit) accruals (x.id - 2) nothing_accrued (omega arith) h)
    by (inr (none, passes)) =
        let kept = kept_of k accruals (filter (accrues_on day) ts) in
        subst (λ (a : Accrued). a.days ≤ limit) (accrued-none k s kept none) (omega arith)

have-kept : (g : Given) (day k : ℕ) (b : Book) (accruals : List Accrued) (ts : List SegmentTerms) → AreByNumber 2 ts → HaveAccrued g day b ts accruals
    → HaveAccrued g day b ts (accrued_by k (kept_of k accruals (filter (accrues_on day) ts)) ts)
have-kept g day k b accruals ts numbered h =
    let f : SegmentTerms → Accrued = λ (x : SegmentTerms). accrued_at k (kept_of k accruals (filter (accrues_on day) ts)) x.id in
    record {
      sums = λ t is kind open'. ap (λ (a : Accrued). a.sum) (placed f ts t numbered is) ∙ kept-sum g day k b accruals ts t h is kind open';
      days = all-mapped (λ (a : Accrued). a.days ≤ day + 1 - opened_in g) f ts (all-here (λ (t : SegmentTerms). (f t).days ≤ day + 1 - opened_in g) ts (λ t is. kept-days (day + 1 - opened_in g) day k t.id accruals ts h.days));
    }

-- ---- the mark
mark-is : (g : Given) (b : Summary) (t : Track) (k : ℕ) (c : Cycle) → StandsFor g b t → b.day ≡ Some c.closing → IsMark g k c b.credit_since (accruing_on k c.closing b.state)
unfolding accruing_on
mark-is g b t k c h e =
    let ts = b.state.rates.segments in
    let accruals = b.state.accruals.items in
    let rated : ts ≡ rated_in g = ap (λ (r : Rates). r.segments) h.folded.stand.rates in
    let kept = kept_of k accruals (filter (accrues_on c.closing) ts) in
    record {
      since = h.since ∙ ap (since_through g) e;
      accrued = subst (λ (xs : List SegmentTerms). HaveAccrued g c.closing (book_on g c.closing) xs (accrued_by k kept xs)) rated
          (have-kept g c.closing k (book_on g c.closing) accruals ts (numbered-in g b t h) (accruals-on g b t c.closing e h));
    }

accruing-cycle : (k day : ℕ) (s : State) → All (λ (a : Accruing). a.cycle ≡ k) (accruing_on k day s)
unfolding accruing_on
accruing-cycle k day s =
    let ts = filter (accrues_on day) s.rates.segments in
    all-mapped (λ (a : Accruing). a.cycle ≡ k) (accruing_of k s.accruals.items) ts (all-here (λ (t : SegmentTerms). k ≡ k) ts (λ t is. refl))

accruing-there : (n k day : ℕ) (s : State) → AreByNumber 2 s.rates.segments → n ≡ length s.rates.segments + 2 → All (λ (a : Accruing). a.segment < n) (accruing_on k day s)
unfolding accruing_on
accruing-there n k day s numbered e =
    let ts = s.rates.segments in
    let ids = all-here (λ (t : SegmentTerms). t.id < n) ts (λ t is. let less = number-below 2 ts t numbered is in omega (arith, less, e)) in
    all-mapped (λ (a : Accruing). a.segment < n) (accruing_of k s.accruals.items) (filter (accrues_on day) ts) (All-filter (accrues_on day) (λ (t : SegmentTerms). t.id < n) ts ids)

-- so with it all closings have their marks
pub marks-more : (g : Given) (b : Summary) (p q : Past) (h : ClosesLast g b p) (cycle : ℕ) → StandsFor g b p.track → cycle ≡ length p.track.cycles.items → q.track.cycles.items ≡ p.track.cycles.items
    → q.since.items ≡ p.since.items ++ b.credit_since ∷ [] → q.accrued.items ≡ p.accrued.items ++ accruing_on cycle h.last.closing b.state → HasMarks g q
marks-more g b p q h cycle stands number cycles since accrued =
    let k = length h.before + 1 in
    let long : length p.track.cycles.items ≡ k = ap (λ (cs : List Cycle). length cs) h.cycles ∙ length-append h.before (h.last ∷ []) in
    let rated = ap (λ (r : Rates). length r.segments + 2) stands.folded.stand.rates in
    let kept = accruing_on k h.last.closing b.state in
    let grown = marks_grow g h.before p.since.items p.accrued.items kept h.last b.credit_since h.marks (accruing-cycle k h.last.closing b.state)
    (accruing-there (length (rated_in g) + 2) k h.last.closing b.state (numbered-in g b p.track stands) (sym rated)) (mark-is g b p.track k h.last stands h.day) in
    let more : q.accrued.items ≡ p.accrued.items ++ kept = accrued ∙ ap (λ n. p.accrued.items ++ accruing_on n h.last.closing b.state) (number ∙ long) in
    subst (λ cs. AreMarks g cs q.since.items q.accrued.items) (sym (cycles ∙ h.cycles))
    (subst (λ ss. AreMarks g (h.before ++ h.last ∷ []) ss q.accrued.items) (sym since) (subst (λ xs. AreMarks g (h.before ++ h.last ∷ []) (p.since.items ++ b.credit_since ∷ []) xs) (sym more) grown))
