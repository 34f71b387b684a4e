-- The numbers of the segments of a place.
use Rattle.std.proofs.Common.{◌≡◌, ℕ, suc, ◌+◌, ◌-◌, ◌<◌, ◌≤◌, Bool, true, false, cond, List, [], ◌∷◌, ◌++◌, length, drop, map, refl, sym, ap, ◌∙◌, arith, eqb, eq-eqb, get_or, Some}
use Rattle.std.specs.List.{All, filter, list_any}
use Rattle.std.proofs.lemmas.Bool.{ne_eqb}
use Rattle.std.proofs.lemmas.List.{append-nil, drop_all, drop_more}
use Rattle.std.proofs.lemmas.List.Elements.{All-nil, All-cons, All-head, All-tail}
use Rattle.card_events.specs.declared.post.Place.{Place}
use Rattle.card_model.specs.Segments.{SegmentTerms, is_kept_of, is_of_place, kept_segment}
use Rattle.card_model.specs.declared.segment.Segment.{Segment}
use Rattle.card_rates.specs.RateBooks.{AreByNumber}
use Rattle.card_effects.specs.Places.{numbers_of}
use Rattle.card_effects.proofs.Places.{all-above, how-many, kept-at, no_segment, number-at}
use Rattle.card_effects.proofs.Reached.{AreNumbersOf}

-- ---- the list grows
append-one : (xs : List ℕ) (t : Bool) (n : ℕ) (g : SegmentTerms) (rest : List SegmentTerms) (p : Place) → n ≡ g.id → (xs ++ cond t (n ∷ []) []) ++ numbers_of p rest ≡ xs ++ map (λ (g : SegmentTerms). g.id) (cond t (g ∷ filter (is_of_place p) rest) (filter (is_of_place p) rest))
append-one [] true n g rest p e = ap (λ k. k ∷ numbers_of p rest) e
append-one [] false n g rest p e = refl
append-one (x ∷ xs) t n g rest p e = ap (λ us. x ∷ us) (append-one xs t n g rest p e)

pub numbers-step : (p : Place) (segs : List Segment) (gs : List SegmentTerms) (s : Segment) (xs new all : List ℕ) (id : ℕ) → AreByNumber 2 gs → drop 2 segs ≡ map kept_segment gs → 2 ≤ id → id < length segs → s ≡ get_or segs id s
    → new ≡ xs ++ cond (is_kept_of p s) (id ∷ []) [] → xs ++ numbers_of p (drop (id - 2) gs) ≡ all → new ++ numbers_of p (drop (id + 1 - 2) gs) ≡ all
numbers-step p segs gs s xs new all id numbers e low l here n h =
    let m = how-many segs gs e in
    let in_list : id - 2 < length gs = omega (arith, m) in
    let g = get_or gs (id - 2) no_segment in
    let rest = drop (id - 2 + 1) gs in
    let next : id - 2 + 1 ≡ id + 1 - 2 = omega arith in
    let number : id ≡ g.id = sym (number-at 2 gs (id - 2) no_segment numbers in_list ∙ omega (arith, low)) in
    let test : is_kept_of p s ≡ is_of_place p g = ap (is_kept_of p) (kept-at segs gs id no_segment s e low l here) in
    ap (λ us. us ++ numbers_of p (drop (id + 1 - 2) gs)) (n ∙ ap (λ t. xs ++ cond t (id ∷ []) []) test)
    ∙ (ap (λ k. (xs ++ cond (is_of_place p g) (id ∷ []) []) ++ numbers_of p (drop k gs)) (sym next)
    ∙ (append-one xs (is_of_place p g) id g rest p number
    ∙ (ap (λ us. xs ++ numbers_of p us) (sym (drop_more gs (id - 2) no_segment in_list)) ∙ h)))

pub numbers-all : (p : Place) (segs : List Segment) (gs : List SegmentTerms) (xs all : List ℕ) (n : ℕ) → drop 2 segs ≡ map kept_segment gs → length segs ≤ n → xs ++ numbers_of p (drop (n - 2) gs) ≡ all → xs ≡ all
numbers-all p segs gs xs all n e l h =
    let m = how-many segs gs e in
    sym (append-nil xs) ∙ (ap (λ us. xs ++ numbers_of p us) (sym (drop_all (n - 2) gs (omega (arith, m, l)))) ∙ h)

-- ---- each segment is in the list where it is of the place
none-above : (p : Place) (n m : ℕ) (gs : List SegmentTerms) → AreByNumber m gs → n < m → list_any (λ s. eqb s n) (numbers_of p gs) ≡ false
unfolding AreByNumber
none-above p n m [] h l = refl
none-above p n m (g ∷ gs) h l = by (is_of_place p g) (none-above p n (suc m) gs h.1 (omega (arith, l)))
  where
    other : eqb g.id n ≡ false
    other = let i = h.0 in ne_eqb g.id n (λ e. omega (arith, l, i, e))

    by : (t : Bool) → list_any (λ s. eqb s n) (numbers_of p gs) ≡ false → list_any (λ s. eqb s n) (map (λ (g : SegmentTerms). g.id) (cond t (g ∷ filter (is_of_place p) gs) (filter (is_of_place p) gs))) ≡ false
    by true ih = rw (other) ih
    by false ih = ih

abbrev Named : Place → List ℕ → SegmentTerms → Type 0
Named p ids g = list_any (λ s. eqb s g.id) ids ≡ is_of_place p g

named-from : (p : Place) (m : ℕ) (gs : List SegmentTerms) → AreByNumber m gs → All (Named p (numbers_of p gs)) gs
unfolding AreByNumber
named-from p m [] h = All-nil (Named p [])
named-from p m (g ∷ gs) h =
    let i = h.0 in
    All-cons (Named p (numbers_of p (g ∷ gs))) g gs (first (is_of_place p g) refl)
    (later gs (all-above (suc m) gs h.1) (named-from p (suc m) gs h.1))
  where
    first : (t : Bool) → is_of_place p g ≡ t → list_any (λ s. eqb s g.id) (map (λ (g : SegmentTerms). g.id) (cond t (g ∷ filter (is_of_place p) gs) (filter (is_of_place p) gs))) ≡ t
    first true e = rw (eq-eqb g.id g.id refl) refl
    first false e = let i = h.0 in none-above p g.id (suc m) gs h.1 (omega (arith, i))

    skip : (x : SegmentTerms) (t : Bool) → suc m ≤ x.id → Named p (numbers_of p gs) x → Named p (map (λ (g : SegmentTerms). g.id) (cond t (g ∷ filter (is_of_place p) gs) (filter (is_of_place p) gs))) x
    skip x true l e = let i = h.0 in let other : eqb g.id x.id ≡ false = ne_eqb g.id x.id (λ q. omega (arith, l, i, q)) in rw other e
    skip x false l e = e

    later : (xs : List SegmentTerms) → All (λ (x : SegmentTerms). suc m ≤ x.id) xs → All (Named p (numbers_of p gs)) xs → All (Named p (numbers_of p (g ∷ gs))) xs
    later [] a n = All-nil (Named p (numbers_of p (g ∷ gs)))
    later (x ∷ xs) a n =
        All-cons (Named p (numbers_of p (g ∷ gs))) x xs (skip x (is_of_place p g) (All-head (λ (x : SegmentTerms). suc m ≤ x.id) x xs a) (All-head (Named p (numbers_of p gs)) x xs n))
        (later xs (All-tail (λ (x : SegmentTerms). suc m ≤ x.id) x xs a) (All-tail (Named p (numbers_of p gs)) x xs n))

pub named : (p : Place) (gs : List SegmentTerms) → AreByNumber 2 gs → AreNumbersOf (Some p) gs (numbers_of p gs)
named p gs h = named-from p 2 gs h
