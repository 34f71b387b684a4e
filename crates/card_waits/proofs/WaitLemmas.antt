-- Posts that wait, with one more post and without the last one.
use Rattle.std.proofs.Common.{◌≡◌, ℕ, zero, suc, ◌+◌, ◌-◌, ◌<◌, ◌≤◌, ◌⊎◌, inl, inr, Bool, true, false, cond, ◌&&◌, ◌==◌, List, [], ◌∷◌, ◌++◌, take, length, length-append, get_or, refl, sym, ap, ◌∙◌, arith}
use Rattle.std.proofs.lemmas.Bool.{cases_lt}
use Rattle.std.proofs.lemmas.Bool.Decides.{nat_tests}
use Rattle.std.proofs.lemmas.List.{get_or-take, get_or_past, length-take-le}
use Rattle.card_events.specs.declared.kept.Kept.{Kept}
use Rattle.card_events.proofs.OneMore.{more}
use Rattle.card_waits.specs.Waits.{AreWaits, HasSpare, IsReplaced, WaitForEarlier, Waits, awaited, ends_waiting, first_by, first_from, own_number, replaced, waiting_from, waits}

-- ---- one more post
pub waiting-more : (n : ℕ) (h : List Kept) (k : Kept) → waiting_from n (more h k) ≡ waiting_from n h ++ own_number (n + length h) k.post
unfolding waiting_from
waiting-more n [] k = let z : n ≡ n + 0 = omega arith in ap (λ m. own_number m k.post) z
waiting-more n (q ∷ h) k = by (waits q.post) (waiting-more (suc n) h k ∙ ap (λ m. waiting_from (suc n) h ++ own_number m k.post) next)
  where
    next : suc n + length h ≡ n + suc (length h)
    next = omega arith

    by : (b : Bool) → waiting_from (suc n) (more h k) ≡ waiting_from (suc n) h ++ own_number (n + suc (length h)) k.post
        → cond b (n ∷ waiting_from (suc n) (more h k)) (waiting_from (suc n) (more h k)) ≡ cond b (n ∷ waiting_from (suc n) h) (waiting_from (suc n) h) ++ own_number (n + suc (length h)) k.post
    by true r = ap (λ u. n ∷ u) r
    by false r = r

-- a number that is found, or another one where none is
abbrev or_else : ℕ → ℕ → ℕ
or_else x y = cond (x == 0) y x

some-found : (n : ℕ) → (suc n == 0) ≡ false
some-found n = grind (arith, nat_tests)

pub first-more : (t n : ℕ) (h : List Kept) (k : Kept) → first_from t (suc n) (more h k) ≡ or_else (first_from t (suc n) h) (cond (awaited k.post == t) (suc n + length h) 0)
unfolding first_from
first-more t n [] k = let z : suc n ≡ suc n + 0 = omega arith in ap (λ m. cond (awaited k.post == t) m 0) z
first-more t n (q ∷ h) k = by (awaited q.post == t) (first-more t (suc n) h k)
  where
    next : suc (suc n) + length h ≡ suc n + suc (length h)
    next = omega arith

    by : (b : Bool) → first_from t (suc (suc n)) (more h k) ≡ or_else (first_from t (suc (suc n)) h) (cond (awaited k.post == t) (suc (suc n) + length h) 0)
        → cond b (suc n) (first_from t (suc (suc n)) (more h k)) ≡ or_else (cond b (suc n) (first_from t (suc (suc n)) h)) (cond (awaited k.post == t) (suc n + suc (length h)) 0)
    by true r = rw (some-found n) refl
    by false r = r ∙ ap (λ m. or_else (first_from t (suc (suc n)) h) (cond (awaited k.post == t) m 0)) next

-- no number lies behind the last post
pub first-within : (t n : ℕ) (h : List Kept) → first_from t (suc n) h < suc n + length h
unfolding first_from
first-within t n [] = omega arith
first-within t n (q ∷ h) = by (awaited q.post == t) (first-within t (suc n) h)
  where
    by : (b : Bool) → first_from t (suc (suc n)) h < suc (suc n) + length h → cond b (suc n) (first_from t (suc (suc n)) h) < suc n + suc (length h)
    by true l = omega arith
    by false l = omega (arith, l)

-- none waits for a later one
pub first-late : (t n : ℕ) (h : List Kept) → WaitForEarlier n h → n + length h ≤ t + 1 → first_from t n h ≡ 0
unfolding first_from WaitForEarlier
first-late t n [] e l = refl
first-late t n (q ∷ h) e l = by (awaited q.post == t) refl (first-late t (suc n) h e.1 (omega (arith, l)))
  where
    by : (b : Bool) → (awaited q.post == t) ≡ b → first_from t (suc n) h ≡ 0 → cond b n (first_from t (suc n) h) ≡ 0
    by true f r = let same : awaited q.post ≡ t = grind (arith, nat_tests, f) in absurd (omega (arith, same, e.0, l))
    by false f r = r

pub earlier-more : (n : ℕ) (h : List Kept) (k : Kept) → WaitForEarlier n h → awaited k.post < n + length h → WaitForEarlier n (more h k)
unfolding WaitForEarlier
earlier-more n [] k e l = (omega (arith, l), tt)
earlier-more n (q ∷ h) k e l = (e.0, earlier-more (suc n) h k e.1 (omega (arith, l)))

pub earlier-front : (n : ℕ) (h : List Kept) (k : Kept) → WaitForEarlier n (more h k) → WaitForEarlier n h
unfolding WaitForEarlier
earlier-front n [] k e = tt
earlier-front n (q ∷ h) k e = (e.0, earlier-front (suc n) h k e.1)

pub earlier-last : (n : ℕ) (h : List Kept) (k : Kept) → WaitForEarlier n (more h k) → awaited k.post < n + length h
unfolding WaitForEarlier
earlier-last n [] k e = omega (arith, e.0)
earlier-last n (q ∷ h) k e = let r = earlier-last (suc n) h k e.1 in omega (arith, r)

pub ends-more : (h : List Kept) (k : Kept) → ends_waiting (more h k) ≡ waits k.post
unfolding ends_waiting
ends-more [] k = refl
ends-more (q ∷ []) k = refl
ends-more (q ∷ p ∷ h) k = ends-more (p ∷ h) k

-- ---- the numbers by post
pub get_or-zero : (xs : List ℕ) (i : ℕ) → get_or (xs ++ 0 ∷ []) i 0 ≡ get_or xs i 0
get_or-zero [] zero = refl
get_or-zero [] (suc i) = refl
get_or-zero (x ∷ xs) zero = refl
get_or-zero (x ∷ xs) (suc i) = get_or-zero xs i

same-number : (a b : ℕ) → (a == b) ≡ true → a ≡ b
same-number a b e = grind (arith, nat_tests)

other-number : (a b : ℕ) → (a == b) ≡ false → a ≡ b → ⊥
other-number a b e f = grind (arith, nat_tests)

swapped : (a b : ℕ) → (a == b) ≡ (b == a)
swapped a b = grind (arith, nat_tests)

-- a post that waits is the first where there was none
pub entered-number : (t m x number : ℕ) → replaced t 0 number m x ≡ or_else x (cond (t == m) number 0)
entered-number t m x number = rw (swapped m t) (by (t == m) (x == 0) refl)
  where
    by : (b c : Bool) → (x == 0) ≡ c → cond (b && c) number x ≡ cond c (cond b number 0) x
    by true true e = refl
    by true false e = refl
    by false true e = same-number x 0 e
    by false false e = refl

-- and taken out again none is there
pub left-number : (t m x number : ℕ) → 0 < number → x < number → replaced t number 0 m (or_else x (cond (t == m) number 0)) ≡ x
left-number t m x number z l = rw (swapped m t) (by (t == m) (x == 0) refl)
  where
    itself : (number == number) ≡ true
    itself = grind (arith, nat_tests)

    less : (x == number) ≡ false
    less = grind (arith, nat_tests, l)

    none : (0 == number) ≡ false
    none = grind (arith, nat_tests, z)

    by : (b c : Bool) → (x == 0) ≡ c → cond (b && (cond c (cond b number 0) x == number)) 0 (cond c (cond b number 0) x) ≡ x
    by true true e = rw itself (sym (same-number x 0 e))
    by true false e = rw less refl
    by false true e = sym (same-number x 0 e)
    by false false e = refl

-- ---- the table
-- with one more post
pub entered : (h : List Kept) (k : Kept) (old new : Waits) (number : ℕ) (pushed : List ℕ) → AreWaits h old → awaited k.post ≤ length old.by → number ≡ length old.by + 1
    → new.waiting ≡ old.waiting ++ own_number number k.post → (waits k.post ≡ false → HasSpare new) → pushed ≡ old.by ++ 0 ∷ [] → IsReplaced (awaited k.post) 0 number pushed new.by → AreWaits (more h k) new
entered h k old new number pushed w low is waiting_is spare pushed_is marks = record {
  earlier = earlier-more 1 h k w.earlier (omega (arith, low, w.long));
  long = long;
  waiting = waiting_is ∙ (ap (λ u. u ++ own_number number k.post) w.waiting ∙ (ap (λ m. waiting_from 1 h ++ own_number m k.post) count ∙ sym (waiting-more 1 h k)));
  by = λ i. marks.each i ∙ (ap (replaced (awaited k.post) 0 number (i + 1)) (ap (λ u. get_or u i 0) pushed_is ∙ get_or-zero old.by i) ∙ (entered-number (awaited k.post) (i + 1) (get_or old.by i 0) number
      ∙ (ap (λ x. or_else x (cond (awaited k.post == i + 1) number 0)) (w.by i) ∙ (ap (λ m. or_else (first_by (i + 1) h) (cond (awaited k.post == i + 1) m 0)) count ∙ sym (first-more (i + 1) 0 h k)))));
  spare = λ e. spare (sym (ends-more h k) ∙ e);
}
  where
    long : length new.by ≡ length (more h k)
    long =
        let a : length pushed ≡ length (old.by ++ 0 ∷ []) = ap length pushed_is in
        let b : length (old.by ++ 0 ∷ []) ≡ length old.by + 1 = length-append old.by (0 ∷ []) in
        let c : length (more h k) ≡ length h + 1 = length-append h (k ∷ []) in
        omega (arith, marks.long, a, b, c, w.long)

    count : number ≡ 1 + length h
    count = omega (arith, is, w.long)

-- without the last one
pub left : (h : List Kept) (k : Kept) (old new : Waits) (number : ℕ) (front : List ℕ) → AreWaits (more h k) old → number ≡ length h + 1
    → ((xs : List ℕ) (n : ℕ) → old.waiting ≡ xs ++ own_number n k.post → new.waiting ≡ xs) → HasSpare new → front ≡ take (length old.by - 1) old.by → IsReplaced (awaited k.post) number 0 front new.by → AreWaits h new
left h k old new number front w is waiting_is spare popped marks = record {
  earlier = earlier-front 1 h k w.earlier;
  long = marks.long ∙ long;
  waiting = waiting_is (waiting_from 1 h) (1 + length h) (w.waiting ∙ waiting-more 1 h k);
  by = λ i. marks.each i ∙ at i (cases_lt i (length h));
  spare = λ e. spare;
}
  where
    zero-stays : (b : Bool) → cond {A = ℕ} b 0 0 ≡ 0
    zero-stays true = refl
    zero-stays false = refl

    all : length old.by ≡ length h + 1
    all = w.long ∙ length-append h (k ∷ [])

    shorter : length old.by - 1 ≡ length h
    shorter = omega (arith, all)

    front_is : front ≡ take (length h) old.by
    front_is = popped ∙ ap (λ n. take n old.by) shorter

    long : length front ≡ length h
    long = ap length front_is ∙ length-take-le (length h) old.by (omega (arith, all))

    count : 1 + length h ≡ number
    count = omega (arith, is)

    at : (i : ℕ) → (i < length h) ⊎ (length h ≤ i) → replaced (awaited k.post) number 0 (i + 1) (get_or front i 0) ≡ first_by (i + 1) h
    at i (inl l) =
        let there : get_or front i 0 ≡ or_else (first_by (i + 1) h) (cond (awaited k.post == i + 1) number 0) =
        ap (λ u. get_or u i 0) front_is ∙ (get_or-take (length h) old.by i 0 l ∙ (w.by i ∙ (first-more (i + 1) 0 h k ∙ ap (λ m. or_else (first_by (i + 1) h) (cond (awaited k.post == i + 1) m 0)) count))) in
        let low : first_by (i + 1) h < number = omega (arith, is, first-within (i + 1) 0 h) in
        ap (replaced (awaited k.post) number 0 (i + 1)) there ∙ left-number (awaited k.post) (i + 1) (first_by (i + 1) h) number (omega (arith, is)) low
    at i (inr l) =
        let none : get_or front i 0 ≡ 0 = get_or_past front i 0 (omega (arith, l, long)) in
        let late : first_by (i + 1) h ≡ 0 = first-late (i + 1) 1 h (earlier-front 1 h k w.earlier) (omega (arith, l)) in
        ap (replaced (awaited k.post) number 0 (i + 1)) none ∙ (zero-stays ((i + 1 == awaited k.post) && (0 == number)) ∙ sym late)
