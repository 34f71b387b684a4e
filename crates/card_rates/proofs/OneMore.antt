-- One element more of a list that a rate is read from.
use Rattle.std.proofs.Common.{◌≡◌, ℕ, ◌+◌, ◌<◌, Bool, true, false, cond, List, [], ◌∷◌, ◌++◌, length, take, get_or, refl, sym, ap, ◌∙◌, Option, Some, None}
use Rattle.std.proofs.lemmas.List.{take_more}
use Rattle.std.proofs.lemmas.List.Sums.{fold-append}
use Rattle.std.proofs.lemmas.List.Elements.{filter_map-append}
use Rattle.std.specs.List.{fold, filter_map}
use Rattle.std.specs.Option.{option_or}
use Rattle.card_model.specs.Rates.{Begun, Lowering, capped, in_force, lowered_by, start_of, starts}
use Rattle.card_model.specs.Segments.{SegmentTerms, last_that}
use Rattle.card_model.specs.declared.segment.Interval.{Interval}
use Rattle.card_model.specs.declared.segment.Sort.{Sort}

-- ---- Lowers
pub capped-none : (s : Sort) (day : ℕ) (b : Begun) → capped [] s day b ≡ b.rate
unfolding capped
capped-none s day b = refl

pub capped-more : (ls : List Lowering) (i : ℕ) (d : Lowering) (s : Sort) (day : ℕ) (b : Begun) → i < length ls → d ≡ get_or ls i d
    → capped (take (i + 1) ls) s day b ≡ lowered_by s b.from day (capped (take i ls) s day b) d
unfolding capped
capped-more ls i d s day b l e =
    ap (fold (lowered_by s b.from day) b.rate) (take_more ls i d l)
    ∙ (fold-append (lowered_by s b.from day) b.rate (take i ls) (get_or ls i d ∷ [])
    ∙ ap (lowered_by s b.from day (fold (lowered_by s b.from day) b.rate (take i ls))) (sym e))

-- ---- penalties
pub raised-none : (f : ℕ → ℕ → ℕ) (r day : ℕ) → fold f r (starts day []) ≡ r
unfolding starts
raised-none f r day = refl

pub raised-more : (f : ℕ → ℕ → ℕ) (r day : ℕ) (is : List Interval) (i : ℕ) (d : Interval) → i < length is → d ≡ get_or is i d
    → fold f r (starts day (take (i + 1) is)) ≡ fold f (fold f r (starts day (take i is))) (starts day (d ∷ []))
unfolding starts
raised-more f r day is i d l e =
    let before = filter_map (start_of day) (take i is) in
    ap (λ js. fold f r (filter_map (start_of day) js)) (take_more is i d l)
    ∙ (ap (fold f r) (filter_map-append (start_of day) (take i is) (get_or is i d ∷ []))
    ∙ (fold-append f r before (filter_map (start_of day) (get_or is i d ∷ []))
    ∙ ap (λ x. fold f (fold f r before) (filter_map (start_of day) (x ∷ []))) (sym e)))

-- one that isn't in force
pub raised-idle : (f : ℕ → ℕ → ℕ) (r day : ℕ) (i : Interval) → in_force day i ≡ false → fold f r (starts day (i ∷ [])) ≡ r
unfolding starts
raised-idle f r day i e = rw e refl

-- one that is
pub raised-once : (f : ℕ → ℕ → ℕ) (r day : ℕ) (i : Interval) → in_force day i ≡ true → fold f r (starts day (i ∷ [])) ≡ f r i.begins
unfolding starts
raised-once f r day i e = rw e refl

-- ---- the last segment that passes
none-first : {A : Type 0} (o : Option A) → option_or None o ≡ option_or o None
none-first None = refl
none-first (Some y) = refl

first-assoc : {A : Type 0} (a b c : Option A) → option_or (option_or a b) c ≡ option_or a (option_or b c)
first-assoc None b c = refl
first-assoc (Some v) b c = refl

last-append : {A : Type 0} (p : A → Bool) (xs : List A) (x : A) → last_that p (xs ++ x ∷ []) ≡ option_or (cond (p x) (Some x) None) (last_that p xs)
last-append p [] x = none-first (cond (p x) (Some x) None)
last-append p (y ∷ xs) x =
    ap (λ q. option_or q (cond (p y) (Some y) None)) (last-append p xs x) ∙ first-assoc (cond (p x) (Some x) None) (last_that p xs) (cond (p y) (Some y) None)

last-more : (p : SegmentTerms → Bool) (gs : List SegmentTerms) (i : ℕ) (d : SegmentTerms) → i < length gs → d ≡ get_or gs i d
    → last_that p (take (i + 1) gs) ≡ option_or (cond (p d) (Some d) None) (last_that p (take i gs))
last-more p gs i d l e =
    ap (last_that p) (take_more gs i d l)
    ∙ (last-append p (take i gs) (get_or gs i d)
    ∙ ap (λ x. option_or (cond (p x) (Some x) None) (last_that p (take i gs))) (sym e))

pub last-then : (p : SegmentTerms → Bool) (gs : List SegmentTerms) (i : ℕ) (d : SegmentTerms) → i < length gs → d ≡ get_or gs i d → p d ≡ true
    → last_that p (take (i + 1) gs) ≡ Some d
last-then p gs i d l e t = last-more p gs i d l e ∙ ap (λ b. option_or (cond b (Some d) None) (last_that p (take i gs))) t

pub last-else : (p : SegmentTerms → Bool) (gs : List SegmentTerms) (i : ℕ) (d : SegmentTerms) → i < length gs → d ≡ get_or gs i d → p d ≡ false
    → last_that p (take (i + 1) gs) ≡ last_that p (take i gs)
last-else p gs i d l e t = last-more p gs i d l e ∙ ap (λ b. option_or (cond b (Some d) None) (last_that p (take i gs))) t
