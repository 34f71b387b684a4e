-- The segments of places, among those that are there.
use Rattle.std.proofs.Common.{◌≡◌, ℕ, zero, suc, ◌+◌, ◌-◌, ◌<◌, ◌≤◌, Bool, true, false, cond, ◌&&◌, List, [], ◌∷◌, length, drop, map, refl, sym, ap, ◌∙◌, arith, eqb, leb, get_or, get_or-drop, Option, Some, None}
use Rattle.std.specs.List.{All, Contains, filter, find}
use Rattle.std.specs.Option.{option_or}
use Rattle.std.proofs.lemmas.Bool.Decides.{nat_tests}
use Rattle.std.proofs.lemmas.List.{drop_more, get_or-map, length-map, length-drop}
use Rattle.std.proofs.lemmas.List.Elements.{All-head, All-tail, All-weaker, All-contains_itself}
use Rattle.card_model.specs.Segments.{SegmentTerms, id_of, is_plan, is_sort, kept_segment, last_that, newest, plan_segment}
use Rattle.card_model.specs.declared.segment.Segment.{Segment}
use Rattle.card_model.specs.declared.segment.Sort.{Sort}
use Rattle.card_model.specs.declared.segment.Sort.TheVariants as sort
use Rattle.card_rates.specs.RateBooks.{AreByNumber}
use Rattle.card_rates.proofs.ByNumber.{number-above}
use Rattle.card_rates.specs.Segments.{is_plan_of}
use Rattle.card_effects.specs.Standing.{is_added}

-- ---- vintages
last-filter : (p q : SegmentTerms → Bool) → ((g : SegmentTerms) → q g ≡ false → p g ≡ false) → (gs : List SegmentTerms) → last_that p (filter q gs) ≡ last_that p gs
last-filter p q h [] = refl
last-filter p q h (g ∷ gs) = by (q g) refl (last-filter p q h gs)
  where
    none : (o : Option SegmentTerms) → option_or o None ≡ o
    none None = refl
    none (Some v) = refl

    by : (t : Bool) → q g ≡ t → last_that p (filter q gs) ≡ last_that p gs → last_that p (cond t (g ∷ filter q gs) (filter q gs)) ≡ option_or (last_that p gs) (cond (p g) (Some g) None)
    by true e ih = ap (λ o. option_or o (cond (p g) (Some g) None)) ih
    by false e ih = rw (h g e) (ih ∙ sym (none (last_that p gs)))

not-begun : (s : Sort) (day : ℕ) (g : SegmentTerms) → is_added day g ≡ false → (is_sort s g.sort && leb g.begins day) ≡ false
not-begun s day g e = by (is_plan g) (is_sort s g.sort) (leb g.begins day) refl e
  where
    by : (t u v : Bool) → leb g.begins day ≡ v → cond t (leb g.begins day) (leb g.begins (day + 15)) ≡ false → (u && v) ≡ false
    by t true false l e = refl
    by t false v l e = refl
    by true true true l e = absurd (grind (arith, nat_tests))
    by false true true l e = absurd (grind (arith, nat_tests))

pub newest-added : (s : Sort) (day : ℕ) (gs : List SegmentTerms) → newest s day gs ≡ newest s day (filter (is_added day) gs)
newest-added s day gs = ap id_of (sym (last-filter (λ g. is_sort s g.sort && leb g.begins day) (is_added day) (not-begun s day) gs))

-- what holds of 2 and of each number holds of the number found
pub last-all : (N : ℕ → Type 0) → N 2 → (p : SegmentTerms → Bool) (gs : List SegmentTerms) → All (λ (g : SegmentTerms). N g.id) gs → N (id_of (last_that p gs))
last-all N two p [] a = two
last-all N two p (g ∷ gs) a = by (last_that p gs) (p g) (last-all N two p gs (All-tail (λ (g : SegmentTerms). N g.id) g gs a)) (All-head (λ (g : SegmentTerms). N g.id) g gs a)
  where
    by : (o : Option SegmentTerms) (t : Bool) → N (id_of o) → N g.id → N (id_of (option_or o (cond t (Some g) None)))
    by (Some v) t n m = n
    by None true n m = m
    by None false n m = n

pub find-all : (N : ℕ → Type 0) → N 2 → (p : SegmentTerms → Bool) (gs : List SegmentTerms) → All (λ (g : SegmentTerms). N g.id) gs → N (id_of (find p gs))
find-all N two p [] a = two
find-all N two p (g ∷ gs) a = by (p g) (find-all N two p gs (All-tail (λ (g : SegmentTerms). N g.id) g gs a)) (All-head (λ (g : SegmentTerms). N g.id) g gs a)
  where
    by : (t : Bool) → N (id_of (find p gs)) → N g.id → N (id_of (cond t (Some g) (find p gs)))
    by true n m = m
    by false n m = n

pub all-above : (m : ℕ) (gs : List SegmentTerms) → AreByNumber m gs → All (λ (g : SegmentTerms). m ≤ g.id) gs
all-above m gs h = All-weaker (Contains gs) (λ (g : SegmentTerms). m ≤ g.id) (λ g c. number-above m gs g h c) gs (All-contains_itself gs)

pub how-many : (segs : List Segment) (gs : List SegmentTerms) → drop 2 segs ≡ map kept_segment gs → length segs - 2 ≡ length gs
how-many segs gs e = omega (arith, ap length e, length-drop 2 segs, length-map gs kept_segment)

-- ---- plans
pub number-at : (m : ℕ) (gs : List SegmentTerms) (i : ℕ) (d : SegmentTerms) → AreByNumber m gs → i < length gs → (get_or gs i d).id ≡ m + i
unfolding AreByNumber
number-at m [] i d h l = absurd (omega arith)
number-at m (g ∷ gs) zero d h l = omega (arith, h.0)
number-at m (g ∷ gs) (suc i) d h l = number-at (suc m) gs i d h.1 (omega arith) ∙ omega arith

abbrev pub no_segment : SegmentTerms
no_segment = record { id = 0; sort = sort.Credit; post = 0; begins = 0; ends = None; rate = 0; effective = 0; after = 0 }

pub kept-at : (segs : List Segment) (gs : List SegmentTerms) (id : ℕ) (d : SegmentTerms) (s : Segment) → drop 2 segs ≡ map kept_segment gs → 2 ≤ id → id < length segs → s ≡ get_or segs id s → s ≡ kept_segment (get_or gs (id - 2) d)
kept-at segs gs id d s e low l here =
    let n = how-many segs gs e in
    let at : 2 + (id - 2) ≡ id = omega arith in
    here ∙ (ap (λ k. get_or segs k s) (sym at) ∙ (sym (get_or-drop 2 segs (id - 2) s) ∙ (ap (λ us. get_or us (id - 2) s) e ∙ get_or-map kept_segment gs (id - 2) d s (omega arith))))

plan-over : (n day : ℕ) (g : SegmentTerms) (gs : List SegmentTerms) → is_plan_of n day (kept_segment g) ≡ false → find (λ x. (eqb x.post n) && is_plan x) (filter (is_added day) (g ∷ gs)) ≡ find (λ x. (eqb x.post n) && is_plan x) (filter (is_added day) gs)
plan-over n day g gs e = by (is_plan g) (eqb g.post n) (leb g.begins day) (leb g.begins (day + 15)) refl refl refl e
  where
    rest : Option SegmentTerms
    rest = find (λ (x : SegmentTerms). (eqb x.post n) && is_plan x) (filter (is_added day) gs)

    by : (t u v w : Bool) → is_plan g ≡ t → eqb g.post n ≡ u → leb g.begins day ≡ v → (u && t && v) ≡ false
        → find (λ x. (eqb x.post n) && is_plan x) (cond (cond t v w) (g ∷ filter (is_added day) gs) (filter (is_added day) gs)) ≡ rest
    by true true true w p q r e = cc
    by true u false w p q r e = refl
    by true false true w p q r e = rw (q) refl
    by false u v false p q r e = refl
    by false true v true p q r e = rw (q, p) refl
    by false false v true p q r e = rw (q) refl

plan-here : (n day : ℕ) (g : SegmentTerms) (gs : List SegmentTerms) → is_plan_of n day (kept_segment g) ≡ true → find (λ x. (eqb x.post n) && is_plan x) (filter (is_added day) (g ∷ gs)) ≡ Some g
plan-here n day g gs e = by (is_plan g) (eqb g.post n) (leb g.begins day) (leb g.begins (day + 15)) refl refl refl e
  where
    by : (t u v w : Bool) → is_plan g ≡ t → eqb g.post n ≡ u → leb g.begins day ≡ v → (u && t && v) ≡ true
        → find (λ x. (eqb x.post n) && is_plan x) (cond (cond t v w) (g ∷ filter (is_added day) gs) (filter (is_added day) gs)) ≡ Some g
    by true true true w p q r e = rw (q, p) refl
    by true true false w p q r e = cc
    by true false v w p q r e = cc
    by false true v w p q r e = cc
    by false false v w p q r e = cc

pub plan-step : (n day id : ℕ) (segs : List Segment) (gs : List SegmentTerms) (s : Segment) → drop 2 segs ≡ map kept_segment gs → 2 ≤ id → id < length segs → s ≡ get_or segs id s → is_plan_of n day s ≡ false
    → plan_segment n (filter (is_added day) (drop (id - 2) gs)) ≡ plan_segment n (filter (is_added day) (drop (id + 1 - 2) gs))
plan-step n day id segs gs s e low l here f =
    let m = how-many segs gs e in
    let next : id - 2 + 1 ≡ id + 1 - 2 = omega arith in
    let kept = kept-at segs gs id no_segment s e low l here in
    ap (λ us. plan_segment n (filter (is_added day) us)) (drop_more gs (id - 2) no_segment (omega arith))
    ∙ (ap id_of (plan-over n day (get_or gs (id - 2) no_segment) (drop (id - 2 + 1) gs) (ap (is_plan_of n day) (sym kept) ∙ f))
    ∙ ap (λ k. plan_segment n (filter (is_added day) (drop k gs))) next)

pub plan-found : (n day id : ℕ) (segs : List Segment) (gs : List SegmentTerms) (s : Segment) → AreByNumber 2 gs → drop 2 segs ≡ map kept_segment gs → 2 ≤ id → id < length segs → s ≡ get_or segs id s → is_plan_of n day s ≡ true
    → plan_segment n (filter (is_added day) (drop (id - 2) gs)) ≡ id
plan-found n day id segs gs s numbers e low l here f =
    let m = how-many segs gs e in
    let kept = kept-at segs gs id no_segment s e low l here in
    let number = number-at 2 gs (id - 2) no_segment numbers (omega arith) in
    ap (λ us. plan_segment n (filter (is_added day) us)) (drop_more gs (id - 2) no_segment (omega arith))
    ∙ (ap id_of (plan-here n day (get_or gs (id - 2) no_segment) (drop (id - 2 + 1) gs) (ap (is_plan_of n day) (sym kept) ∙ f))
    ∙ (number ∙ omega arith))
