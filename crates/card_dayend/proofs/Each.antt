-- What is kept of each segment in turn, changed place by place.
use Rattle.std.proofs.Common.{◌≡◌, ℕ, zero, suc, ◌+◌, ◌<◌, ◌≤◌, List, [], ◌∷◌, ◌++◌, map, take, drop, length, get_or, set, refl, sym, ap, ◌∙◌, subst, arith}
use Rattle.std.specs.List.{Contains}
use Rattle.std.proofs.lemmas.List.{append-nil, drop_all, length-drop, length-map, take_all}
use Rattle.card_effects.specs.Standing.{AreRated}
use Rattle.card_model.specs.Segments.{SegmentTerms, kept_segment, opening_vintage}
use Rattle.card_model.specs.declared.segment.Segment.{Segment}
use Rattle.card_model.specs.declared.segment.Sort.TheVariants as sort
use Rattle.card_rates.specs.RateBooks.{AreByNumber, Rates}
use Rattle.card_dayend.specs.Rows.{each_with}

-- ---- lists of segments
-- what a read beyond the end gives
abbrev pub no_segment : SegmentTerms
no_segment = opening_vintage 2 sort.Purchase 0 0

pub number-at : (m : ℕ) (ts : List SegmentTerms) (i : ℕ) (d : SegmentTerms) → AreByNumber m ts → i < length ts → (get_or ts i d).id ≡ i + m
unfolding AreByNumber
number-at m [] i d h l = absurd (omega arith)
number-at m (t ∷ ts) zero d (e, h) l = omega (arith, e)
number-at m (t ∷ ts) (suc i) d (e, h) l = omega (arith, number-at (suc m) ts i d h (omega arith))

-- Credit, Held, and the rated segments
pub segment-count : (segments : List Segment) (rates : Rates) → AreRated segments rates → 5 ≤ length segments → length segments ≡ length rates.segments + 2
segment-count segments rates h l =
    let kept = ap length h.kept ∙ length-map rates.segments kept_segment in
    let rest = length-drop 2 segments in
    omega (arith, kept, rest)

-- ---- each with a change of its own
pub each-length : {A : Type 0} (f : SegmentTerms → A → A) (ts : List SegmentTerms) (xs : List A) → length (each_with f ts xs) ≡ length xs
unfolding each_with
each-length f [] xs = refl
each-length f (t ∷ ts) [] = refl
each-length f (t ∷ ts) (x ∷ xs) = ap suc (each-length f ts xs)

pub each-at : {A : Type 0} (f : SegmentTerms → A → A) (ts : List SegmentTerms) (xs : List A) (k : ℕ) (t : SegmentTerms) (d : A) → k < length ts → k < length xs
    → get_or (each_with f ts xs) k d ≡ f (get_or ts k t) (get_or xs k d)
unfolding each_with
each-at f [] xs k t d l m = absurd (omega arith)
each-at f (s ∷ ts) [] k t d l m = absurd (omega arith)
each-at f (s ∷ ts) (x ∷ xs) zero t d l m = refl
each-at f (s ∷ ts) (x ∷ xs) (suc k) t d l m = each-at f ts xs k t d (omega arith) (omega arith)

-- where what is kept is a function of the segment
pub each-map : {A : Type 0} (f : SegmentTerms → A → A) (h : SegmentTerms → A) (ts : List SegmentTerms) → each_with f ts (map h ts) ≡ map (λ t. f t (h t)) ts
unfolding each_with
each-map f h [] = refl
each-map f h (t ∷ ts) = ap (λ xs. f t (h t) ∷ xs) (each-map f h ts)

pub same-map : {A : Type 0} (f h : SegmentTerms → A) (ts : List SegmentTerms) → ((t : SegmentTerms) → Contains ts t → f t ≡ h t) → map f ts ≡ map h ts
same-map f h [] e = refl
same-map f h (t ∷ ts) e =
    let here : f t ≡ h t = e t (0, omega arith, refl) in
    let rest : map f ts ≡ map h ts = same-map f h ts (λ s c. e s (suc c.0, let l = c.1 in omega arith, c.2)) in
    ap (λ x. x ∷ map f ts) here ∙ ap (λ xs. h t ∷ xs) rest

-- ---- place by place
there-suc : {A : Type 0} (i : ℕ) (new old : List A) (d : A) → i < length old → length old ≤ length new → get_or (take i new ++ drop i old) i d ≡ get_or old i d
there-suc i new [] d l m = absurd (omega arith)
there-suc i [] (y ∷ ys) d l m = absurd (omega arith)
there-suc zero (x ∷ xs) (y ∷ ys) d l m = refl
there-suc (suc i) (x ∷ xs) (y ∷ ys) d l m = there-suc i xs ys d (omega arith) (omega arith)

renew-suc : {A : Type 0} (i : ℕ) (new old : List A) (d : A) → i < length old → length old ≤ length new → set (take i new ++ drop i old) i (get_or new i d) ≡ take (suc i) new ++ drop (suc i) old
renew-suc i new [] d l m = absurd (omega arith)
renew-suc i [] (y ∷ ys) d l m = absurd (omega arith)
renew-suc zero (x ∷ xs) (y ∷ ys) d l m = refl
renew-suc (suc i) (x ∷ xs) (y ∷ ys) d l m = ap (λ u. x ∷ u) (renew-suc i xs ys d (omega arith) (omega arith))

-- the value at a place that isn't reached yet is the old one
pub each-there : {A : Type 0} (f : SegmentTerms → A → A) (ts : List SegmentTerms) (old now : List A) (i : ℕ) (d : A) → i < length old
    → now ≡ take i (each_with f ts old) ++ drop i old → get_or now i d ≡ get_or old i d
each-there f ts old now i d l e = let long = each-length f ts old in ap (λ xs. get_or xs i d) e ∙ there-suc i (each_with f ts old) old d l (omega (arith, long))

-- one place more
pub each-step : {A : Type 0} (f : SegmentTerms → A → A) (ts : List SegmentTerms) (old now : List A) (i : ℕ) (t : SegmentTerms) (x y : A) → i < length old → length old ≡ length ts
    → now ≡ take i (each_with f ts old) ++ drop i old → x ≡ get_or now i x → y ≡ f (get_or ts i t) x → set now i y ≡ take (i + 1) (each_with f ts old) ++ drop (i + 1) old
each-step f ts old now i t x y l same e at made =
    let long = each-length f ts old in
    let there : x ≡ get_or old i x = at ∙ each-there f ts old now i x l e in
    let within : i < length ts = omega (arith, same) in
    let value : y ≡ get_or (each_with f ts old) i x = made ∙ (ap (f (get_or ts i t)) there ∙ sym (each-at f ts old i t x within l)) in
    let next : suc i ≡ i + 1 = omega arith in
    ap (λ xs. set xs i y) e ∙ (ap (λ z. set (take i (each_with f ts old) ++ drop i old) i z) value
    ∙ subst (λ n. set (take i (each_with f ts old) ++ drop i old) i (get_or (each_with f ts old) i x) ≡ take n (each_with f ts old) ++ drop n old) next
    (renew-suc i (each_with f ts old) old x l (omega (arith, long))))

-- at the end
pub each-done : {A : Type 0} (f : SegmentTerms → A → A) (ts : List SegmentTerms) (old now : List A) (i : ℕ) → length old ≤ i
    → now ≡ take i (each_with f ts old) ++ drop i old → now ≡ each_with f ts old
each-done f ts old now i l e =
    let long = each-length f ts old in
    e ∙ (ap (λ xs. xs ++ drop i old) (take_all i (each_with f ts old) (omega (arith, long))) ∙ (ap (λ xs. each_with f ts old ++ xs) (drop_all i old l) ∙ append-nil (each_with f ts old)))

-- ---- kept segments
