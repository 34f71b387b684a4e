-- Slots in order: those from a day on and up to one, and what does not depend on the order.
use Rattle.std.proofs.Common.{◌≡◌, ℕ, zero, suc, ◌+◌, ◌-◌, ◌<◌, ◌≤◌, Bool, true, false, cond, not, ◌&&◌, ◌||◌, ◌==◌, nat_lt, nat_le, List, [], ◌∷◌, take, drop, length, refl, sym, ap, ◌∙◌, arith, get_or, map, pos}
use Rattle.std.specs.List.{All, filter, list_any, sum_by}
use Rattle.std.specs.List.Sorted.{IsPartitionedBy}
use Rattle.std.proofs.lemmas.Bool.Decides.{nat_tests}
use Rattle.std.proofs.lemmas.List.{length-drop, take_all}
use Rattle.std.proofs.lemmas.List.Elements.{All-head, All-tail}
use Rattle.std.proofs.lemmas.List.Sums.{sum_by-cons}
use Rattle.card_model.specs.Payments.{is_before}
use Rattle.card_events.specs.declared.kept.Slot.{Slot}
use Rattle.card_posts.specs.Order.{before, placed, in_order, IsAscending}
use Rattle.card_posts.proofs.Ordered.{ascending-parted}

-- a slot in front of all those of a day
abbrev pub start_of : ℕ → Slot
start_of day = record { day = day; number = 0; cents = pos 0 }

-- to lie before a day is to come before its start
before-start : (s : Slot) (day : ℕ) → before s (start_of day) ≡ nat_lt s.day day
before-start s day = at s.day s.number
  where
    at : (d n : ℕ) → (nat_lt d day || ((d == day) && nat_lt n 0)) ≡ nat_lt d day
    at d n = grind (arith, nat_tests)

before-next : (s : Slot) (day : ℕ) → before s (start_of (day + 1)) ≡ nat_le s.day day
before-next s day = at s.day s.number
  where
    at : (d n : ℕ) → (nat_lt d (day + 1) || ((d == day + 1) && nat_lt n 0)) ≡ nat_le d day
    at d n = grind (arith, nat_tests)

parted-same : (p q : Slot → Bool) (xs : List Slot) → ((s : Slot) → p s ≡ q s) → IsPartitionedBy p xs → IsPartitionedBy q xs
parted-same p q xs same h i j d low l e = sym (same (get_or xs i d)) ∙ h i j d low l (same (get_or xs j d) ∙ e)

pub parted-before : (day : ℕ) (xs : List Slot) → IsAscending xs → IsPartitionedBy (λ (s : Slot). nat_lt s.day day) xs
parted-before day xs h = parted-same (λ s. before s (start_of day)) (λ s. nat_lt s.day day) xs (λ s. before-start s day) (ascending-parted (start_of day) xs h)

pub parted-by : (day : ℕ) (xs : List Slot) → IsAscending xs → IsPartitionedBy (λ (s : Slot). nat_le s.day day) xs
parted-by day xs h = parted-same (λ s. before s (start_of (day + 1))) (λ s. nat_le s.day day) xs (λ s. before-next s day) (ascending-parted (start_of (day + 1)) xs h)

pub parted-in_front : (day number : ℕ) (xs : List Slot) → IsAscending xs → IsPartitionedBy (λ (s : Slot). is_before day number s.day s.number) xs
parted-in_front day number xs h = ascending-parted (record { day = day; number = number; cents = pos 0 }) xs h

-- ---- the parts of a list at the place where a test stops passing
none-pass : (p : Slot → Bool) (xs : List Slot) → ((k : ℕ) (d : Slot) → k < length xs → p (get_or xs k d) ≡ false) → filter p xs ≡ []
none-pass p [] h = refl
none-pass p (x ∷ xs) h =
    let first : p x ≡ false = h 0 x (omega arith) in
    rw first (none-pass p xs (λ k d l. h (suc k) d (omega (arith, l))))

pub take-passes : (p : Slot → Bool) (xs : List Slot) (place : ℕ) → ((k : ℕ) (d : Slot) → k < place → k < length xs → p (get_or xs k d) ≡ true) → ((k : ℕ) (d : Slot) → place ≤ k → k < length xs → p (get_or xs k d) ≡ false) → take place xs ≡ filter p xs
take-passes p [] zero f b = refl
take-passes p [] (suc n) f b = refl
take-passes p (x ∷ xs) zero f b = sym (none-pass p (x ∷ xs) (λ k d l. b k d (omega arith) l))
take-passes p (x ∷ xs) (suc n) f b =
    let first : p x ≡ true = f 0 x (omega arith) (omega arith) in
    rw first (ap (λ l. x ∷ l) (take-passes p xs n (λ k d l m. f (suc k) d (omega (arith, l)) (omega (arith, m))) (λ k d l m. b (suc k) d (omega (arith, l)) (omega (arith, m)))))

all-fail : (p q : Slot → Bool) (xs : List Slot) → ((s : Slot) → q s ≡ not (p s)) → ((k : ℕ) (d : Slot) → k < length xs → p (get_or xs k d) ≡ false) → xs ≡ filter q xs
all-fail p q [] other h = refl
all-fail p q (x ∷ xs) other h =
    let first : p x ≡ false = h 0 x (omega arith) in
    let kept : q x ≡ true = other x ∙ ap not first in
    rw kept (ap (λ l. x ∷ l) (all-fail p q xs other (λ k d l. h (suc k) d (omega (arith, l)))))

pub drop-passes : (p q : Slot → Bool) (xs : List Slot) (place : ℕ) → ((s : Slot) → q s ≡ not (p s)) → ((k : ℕ) (d : Slot) → k < place → k < length xs → p (get_or xs k d) ≡ true) → ((k : ℕ) (d : Slot) → place ≤ k → k < length xs → p (get_or xs k d) ≡ false) → drop place xs ≡ filter q xs
drop-passes p q [] zero other f b = refl
drop-passes p q [] (suc n) other f b = refl
drop-passes p q (x ∷ xs) zero other f b = all-fail p q (x ∷ xs) other (λ k d l. b k d (omega arith) l)
drop-passes p q (x ∷ xs) (suc n) other f b =
    let first : p x ≡ true = f 0 x (omega arith) (omega arith) in
    let gone : q x ≡ false = other x ∙ ap not first in
    rw gone (drop-passes p q xs n other (λ k d l m. f (suc k) d (omega (arith, l)) (omega (arith, m))) (λ k d l m. b (suc k) d (omega (arith, l)) (omega (arith, m))))

pub since-other : (day : ℕ) (s : Slot) → nat_le day s.day ≡ not (nat_lt s.day day)
since-other day s = at s.day
  where
    at : (d : ℕ) → nat_le day d ≡ not (nat_lt d day)
    at d = grind (arith, nat_tests)

pub ascending-drop : (n : ℕ) (xs : List Slot) → IsAscending xs → IsAscending (drop n xs)
unfolding IsAscending
ascending-drop zero xs h = h
ascending-drop (suc n) [] h = tt
ascending-drop (suc n) (x ∷ xs) h = ascending-drop n xs h.1

-- ---- sums and searches
sum-placed : (f : Slot → ℕ) (s : Slot) (xs : List Slot) → sum_by f (placed s xs) ≡ f s + sum_by f xs
unfolding placed
sum-placed f s [] = sum_by-cons f s []
sum-placed f s (y ∷ ys) = at (before y s) (sum-placed f s ys)
  where
    at : (b : Bool) → sum_by f (placed s ys) ≡ f s + sum_by f ys → sum_by f (cond b (y ∷ placed s ys) (s ∷ y ∷ ys)) ≡ f s + sum_by f (y ∷ ys)
    at true r =
        let one = sum_by-cons f y (placed s ys) in
        let two = sum_by-cons f y ys in
        omega (arith, r, one, two)
    at false r = sum_by-cons f s (y ∷ ys)

pub sum-in_order : (f : Slot → ℕ) (xs : List Slot) → sum_by f (in_order xs) ≡ sum_by f xs
unfolding in_order
sum-in_order f [] = refl
sum-in_order f (x ∷ xs) = sum-placed f x (in_order xs) ∙ ap (λ n. f x + n) (sum-in_order f xs) ∙ sym (sum_by-cons f x xs)

pub sum-filter : {X : Type 0} (f : X → ℕ) (p : X → Bool) (xs : List X) → sum_by f (filter p xs) ≡ sum_by (λ x. cond (p x) (f x) 0) xs
sum-filter f p [] = refl
sum-filter f p (x ∷ xs) = at (p x) (sum-filter f p xs) ∙ sym (sum_by-cons (λ x. cond (p x) (f x) 0) x xs)
  where
    at : (b : Bool) → sum_by f (filter p xs) ≡ sum_by (λ x. cond (p x) (f x) 0) xs → sum_by f (cond b (x ∷ filter p xs) (filter p xs)) ≡ cond b (f x) 0 + sum_by (λ x. cond (p x) (f x) 0) xs
    at true r = sum_by-cons f x (filter p xs) ∙ ap (λ n. f x + n) r
    at false r = omega (arith, r)

pub any-filter : {X : Type 0} (q p : X → Bool) (xs : List X) → list_any q (filter p xs) ≡ list_any (λ x. p x && q x) xs
any-filter q p [] = refl
any-filter q p (x ∷ xs) = at (p x) (any-filter q p xs)
  where
    at : (b : Bool) → list_any q (filter p xs) ≡ list_any (λ x. p x && q x) xs → list_any q (cond b (x ∷ filter p xs) (filter p xs)) ≡ ((b && q x) || list_any (λ x. p x && q x) xs)
    at true r = ap (λ b. q x || b) r
    at false r = r

pub sum-map : {X : Type 0} {Y : Type 0} (f : Y → ℕ) (g : X → Y) (xs : List X) → sum_by f (map g xs) ≡ sum_by (λ x. f (g x)) xs
sum-map f g [] = refl
sum-map f g (x ∷ xs) = sum_by-cons f (g x) (map g xs) ∙ ap (λ n. f (g x) + n) (sum-map f g xs) ∙ sym (sum_by-cons (λ y. f (g y)) x xs)

pub sum-same : {X : Type 0} (f g : X → ℕ) (xs : List X) → All (λ x. f x ≡ g x) xs → sum_by f xs ≡ sum_by g xs
sum-same f g [] h = refl
sum-same f g (x ∷ xs) h =
    let first : f x ≡ g x = All-head (λ x. f x ≡ g x) x xs h in
    let rest = sum-same f g xs (All-tail (λ x. f x ≡ g x) x xs h) in
    let one = sum_by-cons f x xs in
    let two = sum_by-cons g x xs in
    omega (arith, first, rest, one, two)

pub any-same : {X : Type 0} (f g : X → Bool) (xs : List X) → All (λ x. f x ≡ g x) xs → list_any f xs ≡ list_any g xs
any-same f g [] h = refl
any-same f g (x ∷ xs) h =
    let first : f x ≡ g x = All-head (λ x. f x ≡ g x) x xs h in
    rw first (ap (λ b. g x || b) (any-same f g xs (All-tail (λ x. f x ≡ g x) x xs h)))

-- the rest of a list is what is left of its length
pub take-rest : (n : ℕ) (xs : List Slot) → take (length xs - n) (drop n xs) ≡ drop n xs
take-rest n xs = let long = length-drop n xs in take_all (length xs - n) (drop n xs) (omega (arith, long))
