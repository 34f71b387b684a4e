-- Segments stand by their numbers.
use Rattle.std.proofs.Common.{◌+◌, ◌≡◌, ℕ, zero, suc, ◌-◌, ◌≤◌, ◌<◌, Bool, true, false, cond, List, [], ◌∷◌, length, get_or, ap, ◌∙◌, arith, Option, Some, None}
use Rattle.std.specs.List.{Contains}
use Rattle.std.specs.Option.{option_or}
use Rattle.card_model.specs.Segments.{SegmentTerms, id_of, last_that}
use Rattle.card_rates.specs.RateBooks.{AreByNumber}

pub number-above : (m : ℕ) (gs : List SegmentTerms) (g : SegmentTerms) → AreByNumber m gs → Contains gs g → m ≤ g.id
unfolding AreByNumber
number-above m [] g h (k, l, e) = absurd (omega arith)
number-above m (x ∷ xs) g (i, h) (zero, l, e) = let same : x.id ≡ g.id = ap (λ (v : SegmentTerms). v.id) e in omega (arith, i, same)
number-above m (x ∷ xs) g (i, h) (suc k, l, e) = let above = number-above (suc m) xs g h (k, omega arith, e) in omega (arith, above)

pub number-below : (m : ℕ) (gs : List SegmentTerms) (g : SegmentTerms) → AreByNumber m gs → Contains gs g → g.id < m + length gs
unfolding AreByNumber
number-below m [] g h (k, l, e) = absurd (omega arith)
number-below m (x ∷ xs) g (i, h) (zero, l, e) = let same : x.id ≡ g.id = ap (λ (v : SegmentTerms). v.id) e in omega (arith, i, same)
number-below m (x ∷ xs) g (i, h) (suc k, l, e) = let below = number-below (suc m) xs g h (k, omega arith, e) in omega (arith, below)

-- the number of the last that passes, or 2
pub last-below : (p : SegmentTerms → Bool) (bound m : ℕ) (gs : List SegmentTerms) → AreByNumber m gs → 2 < bound → m + length gs ≤ bound → id_of (last_that p gs) < bound
unfolding AreByNumber
last-below p bound m [] h l e = l
last-below p bound m (g ∷ gs) (i, h) l e = by (last_that p gs) (p g) (last-below p bound (suc m) gs h l (omega arith)) (omega (arith, i))
  where
    by : (o : Option SegmentTerms) (t : Bool) → id_of o < bound → g.id < bound → id_of (option_or o (cond t (Some g) None)) < bound
    by (Some v) t a b = a
    by None true a b = b
    by None false a b = l

-- the one with a number stands at its place
pub at-place : (m : ℕ) (gs : List SegmentTerms) (g d : SegmentTerms) → AreByNumber m gs → Contains gs g → get_or gs (g.id - m) d ≡ g
unfolding AreByNumber
at-place m [] g d h (k, l, e) = absurd (omega arith)
at-place m (x ∷ xs) g d (i, h) (zero, l, e) =
    let same : x.id ≡ g.id = ap (λ (v : SegmentTerms). v.id) e in
    let none : g.id - m ≡ 0 = omega (arith, i, same) in
    ap (λ k. get_or (x ∷ xs) k d) none ∙ e
at-place m (x ∷ xs) g d (i, h) (suc k, l, e) =
    let c : Contains xs g = (k, omega arith, e) in
    let above = number-above (suc m) xs g h c in
    let less : g.id - m ≡ suc (g.id - suc m) = omega (arith, above) in
    ap (λ k. get_or (x ∷ xs) k d) less ∙ at-place (suc m) xs g d h c
