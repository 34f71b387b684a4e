-- A list that is sorted, and stably so, is the one that insertion makes: each element before the first that isn't less.
use Rattle.std.proofs.Common.{◌≡◌, ℕ, suc, ◌+◌, ◌<◌, length, Bool, true, false, cond, List, [], ◌∷◌, refl, sym, ap, ◌∙◌, subst, arith}
use Rattle.std.specs.Prelude.{◌&&◌, not, slice_index_or}
use Rattle.std.specs.Cmp.{IsStrictWeakOrder}
use Rattle.std.specs.List.{filter}
use Rattle.std.specs.List.Sorted.{IsSortedBy, IsStableBy, ties}

module _ {X : Type 0} (lt : X → X → Bool) (order : IsStrictWeakOrder lt) where
  abbrev pub inserted : X → List X → List X
  inserted t [] = t ∷ []
  inserted t (u ∷ us) = cond (lt u t) (u ∷ inserted t us) (t ∷ u ∷ us)

  abbrev pub insertion : List X → List X
  insertion [] = []
  insertion (t ∷ ts) = inserted t (insertion ts)

  -- none of these is less than x
  abbrev AreFrom : X → List X → Type 0
  AreFrom x [] = Unit {0}
  AreFrom x (y ∷ ys) = (lt y x ≡ false) × AreFrom x ys

  -- none is less than one before it
  abbrev Rises : List X → Type 0
  Rises [] = Unit {0}
  Rises (x ∷ xs) = AreFrom x xs × Rises xs

  same : (x : X) → lt x x ≡ false
  same x = at (lt x x) refl
    where
      at : (b : Bool) → lt x x ≡ b → lt x x ≡ false
      at true e = order.one_way x x e
      at false e = e

  -- ---- sorted lists rise
  from-next : (x y : X) (ys : List X) → lt y x ≡ false → AreFrom y ys → AreFrom x ys
  from-next x y [] e h = tt
  from-next x y (z ∷ ys) e h = (order.chain z y x h.0 e, from-next x y ys e h.1)

  abbrev Steps : List X → Type 0
  Steps xs = (k : ℕ) (d : X) → suc k < length xs → lt (slice_index_or xs (suc k) d) (slice_index_or xs k d) ≡ false

  rises-by : (xs : List X) → Steps xs → Rises xs
  rises-by [] s = tt
  rises-by (x ∷ []) s = (tt, tt)
  rises-by (x ∷ y ∷ ys) s =
      let rest = rises-by (y ∷ ys) (λ k d l. s (suc k) d (omega (arith, l))) in
      let first : lt y x ≡ false = s 0 x (omega arith) in
      ((first, from-next x y ys first rest.0), rest)

  pub rises : (xs : List X) → IsSortedBy lt xs → Rises xs
  rises xs s =
      rises-by xs (λ k d l. let one : k + 1 ≡ suc k = omega arith in subst (λ n. lt (slice_index_or xs n d) (slice_index_or xs k d) ≡ false) one (s k d (omega arith) (omega (arith, l))))

  -- ---- insertion gives a list that rises
  from-inserted : (x t : X) (us : List X) → lt t x ≡ false → AreFrom x us → AreFrom x (inserted t us)
  from-inserted x t [] e h = (e, tt)
  from-inserted x t (u ∷ us) e h = at (lt u t) (from-inserted x t us e h.1)
    where
      at : (b : Bool) → AreFrom x (inserted t us) → AreFrom x (cond b (u ∷ inserted t us) (t ∷ u ∷ us))
      at true rest = (h.0, rest)
      at false rest = (e, h)

  rises-inserted : (t : X) (us : List X) → Rises us → Rises (inserted t us)
  rises-inserted t [] h = (tt, tt)
  rises-inserted t (u ∷ us) h = at (lt u t) refl (rises-inserted t us h.1)
    where
      at : (b : Bool) → lt u t ≡ b → Rises (inserted t us) → Rises (cond b (u ∷ inserted t us) (t ∷ u ∷ us))
      at true e rest = (from-inserted u t us (order.one_way u t e) h.0, rest)
      at false e rest = ((e, from-next t u us e h.0), h)

  pub rises-insertion : (ts : List X) → Rises (insertion ts)
  rises-insertion [] = tt
  rises-insertion (t ∷ ts) = rises-inserted t (insertion ts) (rises-insertion ts)

  -- ---- and keeps the order of those that tie
  both : (a b : Bool) → (not a && not b) ≡ true → (a ≡ false) × (b ≡ false)
  both true b e = cc
  both false true e = cc
  both false false e = (refl, refl)

  apart : (x t u : X) → lt u t ≡ true → ties lt x t ≡ true → ties lt x u ≡ true → ⊥
  apart x t u l e f =
      let first = both (lt x t) (lt t x) e in
      let second = both (lt x u) (lt u x) f in
      let no_less : lt u t ≡ false = order.chain u x t second.1 first.0 in
      cc

  stable-inserted : (x t : X) (us : List X) → filter (ties lt x) (inserted t us) ≡ filter (ties lt x) (t ∷ us)
  stable-inserted x t [] = refl
  stable-inserted x t (u ∷ us) = at (lt u t) refl (stable-inserted x t us)
    where
      swap : lt u t ≡ true → (a b : Bool) → ties lt x t ≡ a → ties lt x u ≡ b → (rest : List X)
          → cond b (u ∷ cond a (t ∷ rest) rest) (cond a (t ∷ rest) rest) ≡ cond a (t ∷ cond b (u ∷ rest) rest) (cond b (u ∷ rest) rest)
      swap l true true e f rest = absurd (apart x t u l e f)
      swap l true false e f rest = refl
      swap l false true e f rest = refl
      swap l false false e f rest = refl

      at : (b : Bool) → lt u t ≡ b → filter (ties lt x) (inserted t us) ≡ filter (ties lt x) (t ∷ us) → filter (ties lt x) (cond b (u ∷ inserted t us) (t ∷ u ∷ us)) ≡ filter (ties lt x) (t ∷ u ∷ us)
      at true l rest =
          ap (λ r. cond (ties lt x u) (u ∷ r) r) rest ∙ swap l (ties lt x t) (ties lt x u) refl refl (filter (ties lt x) us)
      at false l rest = refl

  pub stable-insertion : (x : X) (ts : List X) → filter (ties lt x) (insertion ts) ≡ filter (ties lt x) ts
  stable-insertion x [] = refl
  stable-insertion x (t ∷ ts) = stable-inserted x t (insertion ts) ∙ ap (λ r. cond (ties lt x t) (t ∷ r) r) (stable-insertion x ts)

  -- ---- one list alone rises and has those that tie in a given order
  ties-self : (x : X) → ties lt x x ≡ true
  ties-self x = let e = same x in rw e refl

  -- x ties with an element that isn't less than y, so x isn't less than y
  reach : (x y : X) (ys rest : List X) → AreFrom y ys → filter (ties lt x) ys ≡ x ∷ rest → lt x y ≡ false
  reach x y [] rest h e = cc
  reach x y (z ∷ ys) rest h e = at (ties lt x z) refl e (λ r. reach x y ys rest h.1 r)
    where
      at : (b : Bool) → ties lt x z ≡ b → cond b (z ∷ filter (ties lt x) ys) (filter (ties lt x) ys) ≡ x ∷ rest → (filter (ties lt x) ys ≡ x ∷ rest → lt x y ≡ false) → lt x y ≡ false
      at true t r later = order.chain x z y (both (lt x z) (lt z x) t).0 h.0
      at false t r later = later r

  abbrev Agree : List X → List X → Type 0
  Agree xs ys = (x : X) → filter (ties lt x) xs ≡ filter (ties lt x) ys

  kept : (x : X) (xs : List X) → filter (ties lt x) (x ∷ xs) ≡ x ∷ filter (ties lt x) xs
  kept x xs = let e = ties-self x in rw e refl

  not-less : (x y : X) (xs ys : List X) → Rises (y ∷ ys) → Agree (x ∷ xs) (y ∷ ys) → lt x y ≡ false
  not-less x y xs ys h g = at (ties lt x y) refl
    where
      here : filter (ties lt x) (y ∷ ys) ≡ x ∷ filter (ties lt x) xs
      here = sym (g x) ∙ kept x xs

      at : (b : Bool) → ties lt x y ≡ b → lt x y ≡ false
      at true t = (both (lt x y) (lt y x) t).0
      at false t = reach x y ys (filter (ties lt x) xs) h.0 (sym (ap (λ b. cond b (y ∷ filter (ties lt x) ys) (filter (ties lt x) ys)) t) ∙ here)

  head-same : (x y : X) (xs ys : List X) → x ∷ xs ≡ y ∷ ys → x ≡ y
  head-same x y xs ys e = cc

  tail-same : (x y : X) (xs ys : List X) → x ∷ xs ≡ y ∷ ys → xs ≡ ys
  tail-same x y xs ys e = cc

  pub only : (xs ys : List X) → Rises xs → Rises ys → Agree xs ys → xs ≡ ys
  only [] [] h r g = refl
  only [] (y ∷ ys) h r g = let e = g y ∙ kept y ys in cc
  only (x ∷ xs) [] h r g = let e = sym (g x) ∙ kept x xs in cc
  only (x ∷ xs) (y ∷ ys) h r g =
      let one = not-less x y xs ys r g in
      let other = not-less y x ys xs h (λ z. sym (g z)) in
      let tie : ties lt x y ≡ true = rw (one, other) refl in
      let first : x ≡ y = head-same x y (filter (ties lt x) xs) (filter (ties lt x) ys) (sym (kept x xs) ∙ g x ∙ ap (λ b. cond b (y ∷ filter (ties lt x) ys) (filter (ties lt x) ys)) tie) in
      let rest : xs ≡ ys = only xs ys h.1 r.1 (λ z. tail z (ties lt z y) (sym (ap (λ w. filter (ties lt z) (w ∷ xs)) first) ∙ g z)) in
      ap (λ w. w ∷ xs) first ∙ ap (λ l. y ∷ l) rest
    where
      tail : (z : X) (b : Bool) → cond b (y ∷ filter (ties lt z) xs) (filter (ties lt z) xs) ≡ cond b (y ∷ filter (ties lt z) ys) (filter (ties lt z) ys) → filter (ties lt z) xs ≡ filter (ties lt z) ys
      tail z true e = tail-same y y (filter (ties lt z) xs) (filter (ties lt z) ys) e
      tail z false e = e

  pub sorted-is : (xs ys : List X) → IsSortedBy lt ys → IsStableBy lt xs ys → ys ≡ insertion xs
  sorted-is xs ys s t = only ys (insertion xs) (rises ys s) (rises-insertion xs) (λ x. t x ∙ sym (stable-insertion x xs))
