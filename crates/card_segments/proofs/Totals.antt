-- Sums of balances.
use Rattle.std.proofs.Common.{◌≡◌, ℕ, suc, ◌+◌, ◌*◌, ◌<◌, Bool, true, false, cond, List, [], ◌∷◌, ◌++◌, length, take, refl, sym, ap, ◌∙◌, arith, ℤ, pos, negsuc, ◌+ℤ◌, w64, FitsSigned, eqb, ltb, get_or}
use Rattle.std.specs.List.{All}
use Rattle.std.proofs.lemmas.Int.{ints, fits_signed_from_abs}
use Rattle.std.proofs.lemmas.Bool.Decides.{nat_tests}
use Rattle.std.proofs.lemmas.List.{take_more}
use Rattle.std.proofs.lemmas.List.Elements.{All-head, All-tail}
use Rattle.card_model.specs.Entries.{AreBalances, balance, owed, sum_of}
use Rattle.card_model.specs.declared.entry.Entry.{Entry}
use Rattle.card_segments.specs.Balances.{IsWithin, total}

total-append : (xs ys : List ℤ) → total (xs ++ ys) ≡ total xs +ℤ total ys
total-append [] ys = omega (arith, ints)
total-append (x ∷ xs) ys = omega (arith, ints, total-append xs ys)

pub total-take_more : (bs : List ℤ) (i : ℕ) → i < length bs → total (take (i + 1) bs) ≡ total (take i bs) +ℤ get_or bs i (pos 0)
total-take_more bs i l = rw (take_more bs i (pos 0) l) (total-append (take i bs) (get_or bs i (pos 0) ∷ []) ∙ omega (arith, ints))

pub within-fits : (n : ℕ) (z : ℤ) → n < 9_223_372_036_854_775_807 → IsWithin n z → FitsSigned w64 z
within-fits n (pos k) l w = fits_signed_from_abs w64 (pos k) (omega (arith, ints, w.1))
within-fits n (negsuc k) l w = fits_signed_from_abs w64 (negsuc k) (omega (arith, ints, w.0))

pub within-sum : (i : ℕ) (s b : ℤ) → IsWithin (i * 11_000_000_000_000_000) s → IsWithin 11_000_000_000_000_000 b → IsWithin ((i + 1) * 11_000_000_000_000_000) (s +ℤ b)
within-sum i s b h k = (omega (arith, ints, h.0, k.0), omega (arith, ints, h.1, k.1))

-- ---- the balances of all entries sum to what is owed
one-more : (k : ℕ) (es : List Entry) → sum_of (λ e. ltb e.segment (suc k)) es ≡ sum_of (λ e. ltb e.segment k) es +ℤ balance k es
one-more k [] = refl
one-more k (e ∷ es) =
    sums (cond (ltb e.segment (suc k)) e.cents (pos 0)) (cond (ltb e.segment k) e.cents (pos 0)) (cond (eqb e.segment k) e.cents (pos 0)) _ _ _ (here e.segment k e.cents) (one-more k es)
  where
    sums : (a b c x y z : ℤ) → a ≡ b +ℤ c → x ≡ y +ℤ z → a +ℤ x ≡ (b +ℤ y) +ℤ (c +ℤ z)
    sums a b c x y z p q = omega (arith, ints)

    here : (s k : ℕ) (z : ℤ) → cond (ltb s (suc k)) z (pos 0) ≡ cond (ltb s k) z (pos 0) +ℤ cond (eqb s k) z (pos 0)
    here s k z = by (ltb s (suc k)) (ltb s k) (eqb s k) refl refl refl
      where
        by : (p q r : Bool) → ltb s (suc k) ≡ p → ltb s k ≡ q → eqb s k ≡ r → cond p z (pos 0) ≡ cond q z (pos 0) +ℤ cond r z (pos 0)
        by true true true a b c = absurd (grind (arith, nat_tests))
        by true true false a b c = omega (arith, ints)
        by true false true a b c = omega (arith, ints)
        by true false false a b c = absurd (grind (arith, nat_tests))
        by false true r a b c = absurd (grind (arith, nat_tests))
        by false false true a b c = absurd (grind (arith, nat_tests))
        by false false false a b c = refl

below : (bs : List ℤ) (k : ℕ) (es : List Entry) → ((i : ℕ) → i < length bs → get_or bs i (pos 0) ≡ balance (k + i) es)
    → sum_of (λ e. ltb e.segment k) es +ℤ total bs ≡ sum_of (λ e. ltb e.segment (k + length bs)) es
below [] k es h = let z : k + 0 ≡ k = omega arith in rw z (omega (arith, ints))
below (b ∷ bs) k es h =
    let first : b ≡ balance (k + 0) es = h 0 (omega arith) in
    let z : k + 0 ≡ k = omega arith in
    let here : b ≡ balance k es = first ∙ ap (λ j. balance j es) z in
    let more : k + suc (length bs) ≡ suc k + length bs = omega arith in
    let rest = below bs (suc k) es (λ i l. h (suc i) (omega arith) ∙ ap (λ j. balance j es) (shift k i)) in
    rw more (joins _ _ _ _ _ (one-more k es) here rest)
  where
    shift : (k i : ℕ) → k + suc i ≡ suc k + i
    shift k i = omega arith

    joins : (x y b t z : ℤ) {c : ℤ} → x ≡ y +ℤ c → b ≡ c → x +ℤ t ≡ z → y +ℤ (b +ℤ t) ≡ z
    joins x y b t z p q r = omega (arith, ints)

none-below : (es : List Entry) → sum_of (λ e. ltb e.segment 0) es ≡ pos 0
none-below [] = refl
none-below (e ∷ es) = let no : ltb e.segment 0 ≡ false = grind (arith, nat_tests) in rw (no, none-below es) refl

all-below : (n : ℕ) (es : List Entry) → All (λ e. e.segment < n) es → sum_of (λ e. ltb e.segment n) es ≡ owed es
all-below n [] h = refl
all-below n (e ∷ es) h =
    let l : e.segment < n = All-head (λ (e : Entry). e.segment < n) e es h in
    let yes : ltb e.segment n ≡ true = grind (arith, nat_tests) in
    rw (yes, all-below n es (All-tail (λ (e : Entry). e.segment < n) e es h)) refl

pub total-owed : (es : List Entry) (bs : List ℤ) → AreBalances es bs → total bs ≡ owed es
total-owed es bs a =
    let start = none-below es in
    let sum = below bs 0 es (λ i l. a.each i l ∙ ap (λ j. balance j es) (plus i)) in
    joins _ _ _ start (sum ∙ ap (λ n. sum_of (λ e. ltb e.segment n) es) (sym (plus (length bs)))) (all-below (length bs) es a.known)
  where
    plus : (i : ℕ) → i ≡ 0 + i
    plus i = omega arith

    joins : (x t y : ℤ) {z : ℤ} → x ≡ pos 0 → x +ℤ t ≡ y → y ≡ z → t ≡ z
    joins x t y p q r = omega (arith, ints)
