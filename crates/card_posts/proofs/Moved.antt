-- A slot that is moved to another place.
use Rattle.std.proofs.Common.{◌≡◌, ℕ, zero, suc, ◌+◌, ◌-◌, ◌<◌, ◌≤◌, Bool, true, false, nat_le, List, [], ◌∷◌, ◌++◌, take, drop, length, get_or, set, refl, sym, ap, ◌∙◌, subst, arith}
use Rattle.std.proofs.lemmas.Bool.Decides.{nat_tests}
use Rattle.card_events.specs.declared.kept.Slot.{Slot}
use Rattle.card_posts.specs.Order.{IsPlace, before, in_order, placed, without}
use Rattle.card_posts.specs.Effect.{slot_by, slots_from}
use Rattle.card_posts.specs.declared.effect.Effect.{Effect}
use Rattle.card_posts.proofs.Ordered.{insert-placed}
use Rattle.card_posts.proofs.SlotLists.{put-in, taken-out}

-- the slots but the one at a place
abbrev pub rest : ℕ → List Slot → List Slot
rest f slots = take f slots ++ drop (suc f) slots

rest-below : (f k : ℕ) (slots : List Slot) (d : Slot) → k < f → f < length slots → get_or (rest f slots) k d ≡ get_or slots k d
rest-below f k [] d l m = absurd (omega (arith, m))
rest-below zero k (x ∷ xs) d l m = absurd (omega (arith, l))
rest-below (suc f) zero (x ∷ xs) d l m = refl
rest-below (suc f) (suc k) (x ∷ xs) d l m = rest-below f k xs d (omega (arith, l)) (omega (arith, m))

rest-from : (f k : ℕ) (slots : List Slot) (d : Slot) → f ≤ k → f < length slots → get_or (rest f slots) k d ≡ get_or slots (suc k) d
rest-from f k [] d l m = absurd (omega (arith, m))
rest-from zero k (x ∷ xs) d l m = refl
rest-from (suc f) zero (x ∷ xs) d l m = absurd (omega (arith, l))
rest-from (suc f) (suc k) (x ∷ xs) d l m = rest-from f k xs d (omega (arith, l)) (omega (arith, m))

rest-length : (f : ℕ) (slots : List Slot) → f < length slots → suc (length (rest f slots)) ≡ length slots
rest-length f [] m = absurd (omega (arith, m))
rest-length zero (x ∷ xs) m = refl
rest-length (suc f) (x ∷ xs) m = ap suc (rest-length f xs (omega (arith, m)))

-- a place before the one that is left stays
pub place-before : (s : Slot) (slots : List Slot) (f p : ℕ) → p ≤ f → f < length slots → IsPlace s slots p → IsPlace s (rest f slots) p
place-before s slots f p l m h =
    let long = rest-length f slots m in
    record {
      front = λ k d a b. subst (λ x. before x s ≡ true) (sym (rest-below f k slots d (omega (arith, a, l)) m)) (h.front k d a (omega (arith, b, long)));
      back = λ k d a b. at k d a b long (nat_le (suc k) f) refl;
      within = omega (arith, l, m, long);
    }
  where
    at : (k : ℕ) (d : Slot) → p ≤ k → k < length (rest f slots) → suc (length (rest f slots)) ≡ length slots → (b : Bool) → nat_le (suc k) f ≡ b → before (get_or (rest f slots) k d) s ≡ false
    at k d a b long true e = let low : k < f = grind (arith, nat_tests, e) in subst (λ x. before x s ≡ false) (sym (rest-below f k slots d low m)) (h.back k d a (omega (arith, b, long)))
    at k d a b long false e = let high : f ≤ k = grind (arith, nat_tests, e) in subst (λ x. before x s ≡ false) (sym (rest-from f k slots d high m)) (h.back (suc k) d (omega (arith, a)) (omega (arith, b, long)))

-- one behind it comes down by one
pub place-behind : (s : Slot) (slots : List Slot) (f q : ℕ) → f ≤ q → f < length slots → IsPlace s slots (suc q) → IsPlace s (rest f slots) q
place-behind s slots f q l m h =
    let long = rest-length f slots m in
    record {
      front = λ k d a b. at k d a b long (nat_le (suc k) f) refl;
      back = λ k d a b. subst (λ x. before x s ≡ false) (sym (rest-from f k slots d (omega (arith, a, l)) m)) (h.back (suc k) d (omega (arith, a)) (omega (arith, b, long)));
      within = omega (arith, long, h.within);
    }
  where
    at : (k : ℕ) (d : Slot) → k < q → k < length (rest f slots) → suc (length (rest f slots)) ≡ length slots → (b : Bool) → nat_le (suc k) f ≡ b → before (get_or (rest f slots) k d) s ≡ true
    at k d a b long true e = let low : k < f = grind (arith, nat_tests, e) in subst (λ x. before x s ≡ true) (sym (rest-below f k slots d low m)) (h.front k d (omega (arith, a)) (omega (arith, b, long)))
    at k d a b long false e = let high : f ≤ k = grind (arith, nat_tests, e) in subst (λ x. before x s ≡ true) (sym (rest-from f k slots d high m)) (h.front (suc k) d (omega (arith, a)) (omega (arith, b, long)))

-- ---- a turned part of the list
last-alone : (j : ℕ) (xs : List Slot) (d : Slot) → j < length xs → drop j (take (suc j) xs) ≡ get_or xs j d ∷ []
last-alone j [] d l = absurd (omega (arith, l))
last-alone zero (x ∷ xs) d l = refl
last-alone (suc j) (x ∷ xs) d l = last-alone j xs d (omega (arith, l))

take-less : (j : ℕ) (xs : List Slot) → take j (take (suc j) xs) ≡ take j xs
take-less zero xs = refl
take-less (suc j) [] = refl
take-less (suc j) (x ∷ xs) = ap (λ u. x ∷ u) (take-less j xs)

-- the last of a part comes first
pub turned-back : (p j : ℕ) (xs ys : List Slot) (s : Slot) → p + j < length xs → ys ≡ drop j (take (suc j) (drop p xs)) ++ take j (take (suc j) (drop p xs))
    → set (take p xs ++ (ys ++ drop (suc j) (drop p xs))) p s ≡ take p (rest (p + j) xs) ++ s ∷ drop p (rest (p + j) xs)
turned-back p j [] ys s l e = absurd (omega (arith, l))
turned-back zero j (x ∷ xs) ys s l e =
    let here : 0 + j ≡ j = omega arith in
    let within : j < length (x ∷ xs) = omega (arith, l) in
    let parts : ys ≡ get_or (x ∷ xs) j s ∷ take j (x ∷ xs) = e ∙ (ap (λ u. u ++ take j (take (suc j) (x ∷ xs))) (last-alone j (x ∷ xs) s within) ∙ ap (λ u. get_or (x ∷ xs) j s ∷ u) (take-less j (x ∷ xs))) in
    ap (λ u. set (u ++ drop (suc j) (x ∷ xs)) 0 s) parts ∙ ap (λ n. s ∷ rest n (x ∷ xs)) (sym here)
turned-back (suc p) j (x ∷ xs) ys s l e =
    let next : suc (p + j) ≡ suc p + j = omega arith in
    ap (λ u. x ∷ u) (turned-back p j xs ys s (omega (arith, l)) e) ∙ ap (λ n. take (suc p) (rest n (x ∷ xs)) ++ s ∷ drop (suc p) (rest n (x ∷ xs))) next

set-between : (j : ℕ) (xs : List Slot) (x s : Slot) → j ≤ length xs → set ((take j xs ++ x ∷ []) ++ drop j xs) j s ≡ take j xs ++ s ∷ drop j xs
set-between zero xs x s l = refl
set-between (suc j) [] x s l = absurd (omega (arith, l))
set-between (suc j) (y ∷ ys) x s l = ap (λ u. y ∷ u) (set-between j ys x s (omega (arith, l)))

-- the first of a part comes last
pub turned-on : (f j : ℕ) (xs ys : List Slot) (s : Slot) → f + j < length xs → ys ≡ drop 1 (take (suc j) (drop f xs)) ++ take 1 (take (suc j) (drop f xs))
    → set (take f xs ++ (ys ++ drop (suc j) (drop f xs))) (f + j) s ≡ take (f + j) (rest f xs) ++ s ∷ drop (f + j) (rest f xs)
turned-on f j [] ys s l e = absurd (omega (arith, l))
turned-on zero j (x ∷ xs) ys s l e =
    let here : 0 + j ≡ j = omega arith in
    rw here (ap (λ u. set (u ++ drop j xs) j s) e ∙ set-between j xs x s (omega (arith, l)))
turned-on (suc f) j (x ∷ xs) ys s l e =
    let next : suc (f + j) ≡ suc f + j = omega arith in
    subst (λ n. set (x ∷ (take f xs ++ (ys ++ drop (suc j) (drop f xs)))) n s ≡ take n (x ∷ rest f xs) ++ s ∷ drop n (x ∷ rest f xs)) next
    (ap (λ u. x ∷ u) (turned-on f j xs ys s (omega (arith, l)) e))

-- ---- the slots once what counts for a post is other
pub changed-back : (order new : List Slot) (es : List Effect) (i : ℕ) (e now : Effect) (s t : Slot) (p q : ℕ) → i < length es → order ≡ in_order (slots_from 1 es) → s ≡ slot_by (i + 1) e → e ≡ get_or es i e → t ≡ slot_by (i + 1) now
    → IsPlace s order p → IsPlace t order q → q ≤ p → new ≡ take q (rest p order) ++ t ∷ drop q (rest p order) → new ≡ in_order (slots_from 1 (set es i now))
changed-back order new es i e now s t p q l is old_is e_is new_is from to low made =
    let out = taken-out order es i s e p l is old_is e_is from in
    let next : suc p ≡ p + 1 = omega arith in
    let left : rest p order ≡ in_order (without i (slots_from 1 es)) = ap (λ n. take p order ++ drop n order) next ∙ out.1 in
    made ∙ (insert-placed t (rest p order) q (place-before t order p q low out.0 to) ∙ (ap (placed t) left ∙ (ap (λ u. placed u (in_order (without i (slots_from 1 es)))) new_is ∙ put-in es i now l)))

pub changed-on : (order new : List Slot) (es : List Effect) (i : ℕ) (e now : Effect) (s t : Slot) (p q : ℕ) → i < length es → order ≡ in_order (slots_from 1 es) → s ≡ slot_by (i + 1) e → e ≡ get_or es i e → t ≡ slot_by (i + 1) now
    → IsPlace s order p → IsPlace t order q → p < q → new ≡ take (q - 1) (rest p order) ++ t ∷ drop (q - 1) (rest p order) → new ≡ in_order (slots_from 1 (set es i now))
changed-on order new es i e now s t p q l is old_is e_is new_is from to high made =
    let out = taken-out order es i s e p l is old_is e_is from in
    let next : suc p ≡ p + 1 = omega arith in
    let last : q ≡ suc (q - 1) = omega (arith, high) in
    let left : rest p order ≡ in_order (without i (slots_from 1 es)) = ap (λ n. take p order ++ drop n order) next ∙ out.1 in
    made ∙ (insert-placed t (rest p order) (q - 1) (place-behind t order p (q - 1) (omega (arith, high)) out.0 (subst (λ n. IsPlace t order n) last to))
    ∙ (ap (placed t) left ∙ (ap (λ u. placed u (in_order (without i (slots_from 1 es)))) new_is ∙ put-in es i now l)))
