-- Slots in order.
use Rattle.std.proofs.Common.{◌≡◌, ℕ, zero, suc, ◌+◌, ◌<◌, ◌≤◌, Bool, true, false, cond, not, ◌&&◌, ◌||◌, ◌==◌, nat_lt, List, [], ◌∷◌, ◌++◌, take, drop, length, refl, sym, ap, ◌∙◌, arith, set, get_or, add-one}
use Rattle.std.specs.List.Sorted.{IsPartitionedBy}
use Rattle.std.proofs.lemmas.Bool.Decides.{nat_tests}
use Rattle.std.proofs.lemmas.Bool.{eqb-true}
use Rattle.std.proofs.lemmas.List.{append-nil}
use Rattle.card_posts.specs.Order.{before, placed, in_order, HaveNumbers, IsAscending, IsPlace, Each, on_day, without}
use Rattle.card_events.specs.declared.kept.Slot.{Slot}

-- the order on days and numbers
total : (d n e m : ℕ) → (n ≡ m → ⊥) → (nat_lt e d || ((e == d) && nat_lt m n)) ≡ not (nat_lt d e || ((d == e) && nat_lt n m))
total d n e m h = grind (arith, nat_tests)

-- y before t, y not before s: s is before t or at it
between : (d n e m f k : ℕ) → (nat_lt f e || ((f == e) && nat_lt k m)) ≡ true → (nat_lt f d || ((f == d) && nat_lt k n)) ≡ false → (nat_lt d e || ((d == e) && nat_lt n m)) ≡ true
between d n e m f k h g = grind (arith, nat_tests)

pub before-total : (s t : Slot) → (s.number ≡ t.number → ⊥) → before t s ≡ not (before s t)
before-total s t h = total s.day s.number t.day t.number h

pub before-between : (s t y : Slot) → before y t ≡ true → before y s ≡ false → before s t ≡ true
before-between s t y h g = between s.day s.number t.day t.number y.day y.number h g

pub not-before-itself : (s : Slot) → before s s ≡ false
not-before-itself s = at s.day s.number
  where
    at : (d n : ℕ) → (nat_lt d d || ((d == d) && nat_lt n n)) ≡ false
    at d n = grind (arith, nat_tests)

-- two slots are placed in either order
pub placed-swap : (s t : Slot) (xs : List Slot) → (s.number ≡ t.number → ⊥) → placed s (placed t xs) ≡ placed t (placed s xs)
unfolding placed
placed-swap s t [] h = none (before s t) (before t s) (before-total s t h)
  where
    none : (b c : Bool) → c ≡ not b → cond c (t ∷ s ∷ []) (s ∷ t ∷ []) ≡ cond b (s ∷ t ∷ []) (t ∷ s ∷ [])
    none true c e = rw e refl
    none false c e = rw e refl
placed-swap s t (y ∷ ys) h = some (before y s) (before y t) refl refl (placed-swap s t ys h)
  where
    some : (b c : Bool) → before y s ≡ b → before y t ≡ c → placed s (placed t ys) ≡ placed t (placed s ys)
        → placed s (cond c (y ∷ placed t ys) (t ∷ y ∷ ys)) ≡ placed t (cond b (y ∷ placed s ys) (s ∷ y ∷ ys))
    some true true e f r = rw (e, f, r) refl
    some true false e f r =
        let first : before t s ≡ true = before-between t s y e f in
        rw (first, e, f) refl
    some false true e f r =
        let first : before s t ≡ true = before-between s t y f e in
        rw (first, e, f) refl
    some false false e f r = both (before s t) (before t s) (before-total s t h)
      where
        both : (b c : Bool) → c ≡ not b → cond c (t ∷ placed s (y ∷ ys)) (s ∷ t ∷ y ∷ ys) ≡ cond b (s ∷ placed t (y ∷ ys)) (t ∷ s ∷ y ∷ ys)
        both true c g = rw (g, f) refl
        both false c g = rw (g, e) refl

-- a slot from the middle may be placed last
pub in_order-middle : (xs : List Slot) (s : Slot) (ys : List Slot) → Each (λ (x : Slot). s.number ≡ x.number → ⊥) xs → in_order (xs ++ s ∷ ys) ≡ placed s (in_order (xs ++ ys))
unfolding in_order
in_order-middle [] s ys h = refl
in_order-middle (x ∷ xs) s ys h = ap (placed x) (in_order-middle xs s ys h.1) ∙ sym (placed-swap s x (in_order (xs ++ ys)) h.0)

all-placed : (b s : Slot) (xs : List Slot) → before s b ≡ false → Each (λ (y : Slot). before y b ≡ false) xs → Each (λ (y : Slot). before y b ≡ false) (placed s xs)
unfolding placed
all-placed b s [] h g = (h, tt)
all-placed b s (y ∷ ys) h g = at (before y s) (all-placed b s ys h g.1)
  where
    at : (c : Bool) → Each (λ (y : Slot). before y b ≡ false) (placed s ys) → Each (λ (y : Slot). before y b ≡ false) (cond c (y ∷ placed s ys) (s ∷ y ∷ ys))
    at true r = (g.0, r)
    at false r = (h, g)

-- a chain of slots that aren't before one another
chain : (a b c : Slot) → before b a ≡ false → before c b ≡ false → before c a ≡ false
chain a b c h g = at a.day a.number b.day b.number c.day c.number h g
  where
    at : (d n e m f k : ℕ) → (nat_lt e d || ((e == d) && nat_lt m n)) ≡ false → (nat_lt f e || ((f == e) && nat_lt k m)) ≡ false → (nat_lt f d || ((f == d) && nat_lt k n)) ≡ false
    at d n e m f k h g = grind (arith, nat_tests)

asym : (a b : Slot) → before a b ≡ true → before b a ≡ false
asym a b h = at a.day a.number b.day b.number h
  where
    at : (d n e m : ℕ) → (nat_lt d e || ((d == e) && nat_lt n m)) ≡ true → (nat_lt e d || ((e == d) && nat_lt m n)) ≡ false
    at d n e m h = grind (arith, nat_tests)

all-chain : (s y : Slot) (ys : List Slot) → before y s ≡ false → Each (λ (z : Slot). before z y ≡ false) ys → Each (λ (z : Slot). before z s ≡ false) ys
all-chain s y [] h g = tt
all-chain s y (z ∷ zs) h g = (chain s y z h g.0, all-chain s y zs h g.1)

pub ascending-placed : (s : Slot) (xs : List Slot) → IsAscending xs → IsAscending (placed s xs)
unfolding placed IsAscending
ascending-placed s [] h = (tt, tt)
ascending-placed s (y ∷ ys) h = at (before y s) refl (ascending-placed s ys h.1)
  where
    at : (c : Bool) → before y s ≡ c → IsAscending (placed s ys) → IsAscending (cond c (y ∷ placed s ys) (s ∷ y ∷ ys))
    at true e r = (all-placed y s ys (asym y s e) h.0, r)
    at false e r = ((e, all-chain s y ys e h.0), h)

pub ascending-in_order : (xs : List Slot) → IsAscending (in_order xs)
unfolding in_order IsAscending
ascending-in_order [] = tt
ascending-in_order (x ∷ xs) = ascending-placed x (in_order xs) (ascending-in_order xs)

-- a partitioned list, for the search of a place
all-after : (y s : Slot) (ys : List Slot) → before y s ≡ false → Each (λ (z : Slot). before z y ≡ false) ys → (j : ℕ) (d : Slot) → j < length ys → before (get_or ys j d) s ≡ false
all-after y s [] h g j d l = absurd (omega (arith, l))
all-after y s (z ∷ zs) h g zero d l = chain s y z h g.0
all-after y s (z ∷ zs) h g (suc j) d l = all-after y s zs h g.1 j d (omega (arith, l))

pub ascending-parted : (s : Slot) (xs : List Slot) → IsAscending xs → IsPartitionedBy (λ (y : Slot). before y s) xs
unfolding IsAscending
ascending-parted s [] h i j d low l e = absurd (omega (arith, l))
ascending-parted s (y ∷ ys) h zero zero d low l e = e
ascending-parted s (y ∷ ys) h zero (suc j) d low l e = first (before y s) refl
  where
    first : (b : Bool) → before y s ≡ b → before y s ≡ true
    first true g = g
    first false g = let no = all-after y s ys g h.0 j d (omega (arith, l)) in absurd (cc)
ascending-parted s (y ∷ ys) h (suc i) zero d low l e = absurd (omega (arith, low))
ascending-parted s (y ∷ ys) h (suc i) (suc j) d low l e = ascending-parted s ys h.1 i j d (omega (arith, low)) (omega (arith, l)) e

place-less : (s y : Slot) (ys : List Slot) (p : ℕ) → IsPlace s (y ∷ ys) (suc p) → IsPlace s ys p
place-less s y ys p h = record {
  front = λ k d l m. h.front (suc k) d (omega (arith, l)) (omega (arith, m));
  back = λ k d l m. h.back (suc k) d (omega (arith, l)) (omega (arith, m));
  within = omega (arith, h.within);
}

pub insert-placed : (s : Slot) (xs : List Slot) (p : ℕ) → IsPlace s xs p → take p xs ++ s ∷ drop p xs ≡ placed s xs
unfolding placed
insert-placed s [] zero h = refl
insert-placed s [] (suc p) h = absurd (omega (arith, h.within))
insert-placed s (y ∷ ys) zero h = let no : before y s ≡ false = h.back 0 s (omega arith) (omega arith) in rw no refl
insert-placed s (y ∷ ys) (suc p) h =
    let yes : before y s ≡ true = h.front 0 s (omega arith) (omega arith) in
    rw yes (ap (λ l. y ∷ l) (insert-placed s ys p (place-less s y ys p h)))

pub remove-placed : (s : Slot) (xs : List Slot) (p : ℕ) → IsPlace s (placed s xs) p → take p (placed s xs) ++ drop (suc p) (placed s xs) ≡ xs
unfolding placed
remove-placed s [] zero h = refl
remove-placed s [] (suc p) h = let no = not-before-itself s in let yes : before s s ≡ true = h.front 0 s (omega arith) (omega arith) in absurd (cc)
remove-placed s (y ∷ ys) p h = at (before y s) refl (λ q g. remove-placed s ys q g) p h
  where
    at : (b : Bool) → before y s ≡ b → ((q : ℕ) → IsPlace s (placed s ys) q → take q (placed s ys) ++ drop (suc q) (placed s ys) ≡ ys) → (p : ℕ) → IsPlace s (cond b (y ∷ placed s ys) (s ∷ y ∷ ys)) p → take p (cond b (y ∷ placed s ys) (s ∷ y ∷ ys)) ++ drop (suc p) (cond b (y ∷ placed s ys) (s ∷ y ∷ ys)) ≡ y ∷ ys
    at true e r zero h = let no : before y s ≡ false = h.back 0 s (omega arith) (omega arith) in absurd (cc)
    at true e r (suc p) h = ap (λ l. y ∷ l) (r p (place-less s y (placed s ys) p h))
    at false e r zero h = refl
    at false e r (suc p) h = let no = not-before-itself s in let yes : before s s ≡ true = h.front 0 s (omega arith) (omega arith) in absurd (cc)

pub lacks-front : (n m i : ℕ) (xs : List Slot) → HaveNumbers n xs → n + i ≤ m → Each (λ (x : Slot). m ≡ x.number → ⊥) (take i xs)
unfolding HaveNumbers
lacks-front n m zero xs h l = tt
lacks-front n m (suc i) [] h l = tt
lacks-front n m (suc i) (x ∷ xs) h l = ((λ e. omega (arith, h.0, e, l)), lacks-front (suc n) m i xs h.1 (omega arith))

-- the place of a slot that is there
pub place-inside : (s : Slot) (xs : List Slot) (p : ℕ) → IsPlace s (placed s xs) p → p < length (placed s xs)
unfolding placed
place-inside s [] zero h = omega arith
place-inside s [] (suc p) h = let no = not-before-itself s in let yes : before s s ≡ true = h.front 0 s (omega arith) (omega arith) in absurd (cc)
place-inside s (y ∷ ys) p h = at (before y s) (λ q g. place-inside s ys q g) p h
  where
    at : (b : Bool) → ((q : ℕ) → IsPlace s (placed s ys) q → q < length (placed s ys)) → (p : ℕ) → IsPlace s (cond b (y ∷ placed s ys) (s ∷ y ∷ ys)) p → p < length (cond b (y ∷ placed s ys) (s ∷ y ∷ ys))
    at true r zero h = omega arith
    at true r (suc p) h = let l = r p (place-less s y (placed s ys) p h) in omega (arith, l)
    at false r zero h = omega arith
    at false r (suc p) h = let no = not-before-itself s in let yes : before s s ≡ true = h.front 0 s (omega arith) (omega arith) in absurd (cc)

pub number-at : (n i : ℕ) (xs : List Slot) (d : Slot) → HaveNumbers n xs → i < length xs → (get_or xs i d).number ≡ n + i
unfolding HaveNumbers
number-at n i [] d h l = absurd (omega (arith, l))
number-at n zero (x ∷ xs) d h l = omega (arith, h.0)
number-at n (suc i) (x ∷ xs) d h l = let r = number-at (suc n) i xs d h.1 (omega (arith, l)) in omega (arith, r)

-- the slots with one of them put last
pub without-order : (xs : List Slot) (i : ℕ) (d : Slot) → HaveNumbers 1 xs → i < length xs → in_order xs ≡ placed (get_or xs i d) (in_order (without i xs))
without-order xs i d h l =
    let number = number-at 1 i xs d h l in
    let front : Each (λ (x : Slot). (get_or xs i d).number ≡ x.number → ⊥) (take i xs) = lacks-front 1 (get_or xs i d).number i xs h (omega (arith, number)) in
    rw (add-one) (ap in_order (split xs i d l) ∙ in_order-middle (take i xs) (get_or xs i d) (drop (suc i) xs) front)
  where
    split : (xs : List Slot) (i : ℕ) (d : Slot) → i < length xs → xs ≡ take i xs ++ get_or xs i d ∷ drop (suc i) xs
    split [] i d l = absurd (omega (arith, l))
    split (x ∷ xs) zero d l = refl
    split (x ∷ xs) (suc i) d l = ap (λ u. x ∷ u) (split xs i d (omega (arith, l)))

pub set-order : (xs : List Slot) (i : ℕ) (t : Slot) → HaveNumbers 1 xs → i < length xs → t.number ≡ i + 1 → in_order (set xs i t) ≡ placed t (in_order (without i xs))
set-order xs i t h l f =
    let front : Each (λ (x : Slot). t.number ≡ x.number → ⊥) (take i xs) = lacks-front 1 t.number i xs h (omega arith) in
    rw (add-one) (ap in_order (split xs i t l) ∙ in_order-middle (take i xs) t (drop (suc i) xs) front)
  where
    split : (xs : List Slot) (i : ℕ) (t : Slot) → i < length xs → set xs i t ≡ take i xs ++ t ∷ drop (suc i) xs
    split [] i t l = absurd (omega (arith, l))
    split (x ∷ xs) zero t l = refl
    split (x ∷ xs) (suc i) t l = ap (λ u. x ∷ u) (split xs i t (omega (arith, l)))

numbers-below : (n m : ℕ) (xs : List Slot) → HaveNumbers n xs → n + length xs ≤ m → Each (λ (x : Slot). m ≡ x.number → ⊥) xs
unfolding HaveNumbers
numbers-below n m [] h l = tt
numbers-below n m (x ∷ xs) h l = ((λ e. omega (arith, h.0, e, l)), numbers-below (suc n) m xs h.1 (omega (arith, l)))

-- one more slot is placed
pub in_order-more : (xs : List Slot) (s : Slot) → HaveNumbers 1 xs → s.number ≡ length xs + 1 → in_order (xs ++ s ∷ []) ≡ placed s (in_order xs)
in_order-more xs s h e = in_order-middle xs s [] (numbers-below 1 s.number xs h (omega (arith, e))) ∙ ap (λ l. placed s (in_order l)) (append-nil xs)

-- The slots of a day stand in order of acceptance
after-earlier : (d : ℕ) (s y : Slot) → s.number < y.number → before y s ≡ true → s.day ≡ d → (y.day == d) ≡ false
after-earlier d s y l e f = at s.day s.number y.day y.number l e f
  where
    at : (a n b m : ℕ) → n < m → (nat_lt b a || ((b == a) && nat_lt m n)) ≡ true → a ≡ d → (b == d) ≡ false
    at a n b m l e f = grind (arith, nat_tests)

on-placed : (d : ℕ) (s : Slot) (xs : List Slot) → Each (λ (x : Slot). s.number < x.number) xs → on_day d (placed s xs) ≡ on_day d (s ∷ xs)
unfolding placed
on-placed d s [] h = refl
on-placed d s (y ∷ ys) h = at (before y s) refl (on-placed d s ys h.1)
  where
    at : (c : Bool) → before y s ≡ c → on_day d (placed s ys) ≡ on_day d (s ∷ ys) → on_day d (cond c (y ∷ placed s ys) (s ∷ y ∷ ys)) ≡ on_day d (s ∷ y ∷ ys)
    at false e r = refl
    at true e r = day (s.day == d) refl
      where
        day : (b : Bool) → (s.day == d) ≡ b → cond (y.day == d) (y ∷ on_day d (placed s ys)) (on_day d (placed s ys)) ≡ cond (s.day == d) (s ∷ cond (y.day == d) (y ∷ on_day d ys) (on_day d ys)) (cond (y.day == d) (y ∷ on_day d ys) (on_day d ys))
        day true f =
            let no : (y.day == d) ≡ false = after-earlier d s y h.0 e (eqb-true s.day d f) in
            rw (no, r, f) refl
        day false f = rw (r, f) refl

each-placed : (P : Slot → Type 0) (s : Slot) (xs : List Slot) → P s → Each P xs → Each P (placed s xs)
unfolding placed
each-placed P s [] h g = (h, tt)
each-placed P s (y ∷ ys) h g = at (before y s) (each-placed P s ys h g.1)
  where
    at : (c : Bool) → Each P (placed s ys) → Each P (cond c (y ∷ placed s ys) (s ∷ y ∷ ys))
    at true r = (g.0, r)
    at false r = (h, g)

each-in_order : (P : Slot → Type 0) (xs : List Slot) → Each P xs → Each P (in_order xs)
unfolding in_order
each-in_order P [] h = tt
each-in_order P (x ∷ xs) h = each-placed P x (in_order xs) h.0 (each-in_order P xs h.1)

numbers-above : (m n : ℕ) (xs : List Slot) → HaveNumbers n xs → m < n → Each (λ (x : Slot). m < x.number) xs
unfolding HaveNumbers
numbers-above m n [] h l = tt
numbers-above m n (x ∷ xs) h l = (omega (arith, h.0, l), numbers-above m (suc n) xs h.1 (omega arith))

pub on-in_order : (n d : ℕ) (xs : List Slot) → HaveNumbers n xs → on_day d (in_order xs) ≡ on_day d xs
unfolding in_order HaveNumbers
on-in_order n d [] h = refl
on-in_order n d (x ∷ xs) h =
    on-placed d x (in_order xs) (each-in_order (λ (y : Slot). x.number < y.number) xs (numbers-above x.number (suc n) xs h.1 (omega (arith, h.0))))
    ∙ ap (λ l. cond (x.day == d) (x ∷ l) l) (on-in_order (suc n) d xs h.1)
