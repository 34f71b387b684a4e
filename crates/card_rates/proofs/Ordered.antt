-- Slots in order: how many are of earlier days, and those of a day behind them.
use Rattle.std.proofs.Common.{◌≡◌, ℕ, zero, suc, ◌+◌, ◌<◌, ◌≤◌, Bool, true, false, cond, ◌&&◌, ◌||◌, ◌==◌, nat_lt, nat_le, List, [], ◌∷◌, length, refl, sym, ap, ◌∙◌, arith, get_or, map, pos, Some, inl, inr, ◌⊎◌}
use Rattle.std.specs.Prelude.{slice_get}
use Rattle.std.specs.List.{count_by}
use Rattle.std.specs.List.Sorted.{IsPartitionedBy}
use Rattle.std.proofs.lemmas.Bool.{cases_lt}
use Rattle.std.proofs.lemmas.Bool.Decides.{nat_tests}
use Rattle.std.proofs.lemmas.List.Sums.{sum_by-cons}
use Rattle.card_events.specs.declared.kept.Slot.{Slot}
use Rattle.card_posts.specs.Order.{Each, IsAscending, before, in_order, on_day, placed}
use Rattle.card_posts.proofs.Ordered.{ascending-parted}
use Rattle.card_rates.specs.Days.{slots_before}

-- ---- the slots of earlier days stand in front
-- a slot in front of all those of a day
abbrev start_of : ℕ → Slot
start_of day = record { day = day; number = 0; cents = pos 0 }

before-start : (s : Slot) (day : ℕ) → before s (start_of day) ≡ nat_lt s.day day
before-start s day = at s.day s.number
  where
    at : (d n : ℕ) → (nat_lt d day || ((d == day) && nat_lt n 0)) ≡ nat_lt d day
    at d n = grind (arith, nat_tests)

before-next : (s : Slot) (day : ℕ) → before s (start_of (day + 1)) ≡ nat_le s.day day
before-next s day = at s.day s.number
  where
    at : (d n : ℕ) → (nat_lt d (day + 1) || ((d == day + 1) && nat_lt n 0)) ≡ nat_le d day
    at d n = grind (arith, nat_tests)

parted-same : (p q : Slot → Bool) (xs : List Slot) → ((s : Slot) → p s ≡ q s) → IsPartitionedBy p xs → IsPartitionedBy q xs
parted-same p q xs same h i j d low l e = sym (same (get_or xs i d)) ∙ h i j d low l (same (get_or xs j d) ∙ e)

pub parted-before : (day : ℕ) (xs : List Slot) → IsAscending xs → IsPartitionedBy (λ (s : Slot). nat_lt s.day day) xs
parted-before day xs h = parted-same (λ s. before s (start_of day)) (λ s. nat_lt s.day day) xs (λ s. before-start s day) (ascending-parted (start_of day) xs h)

-- ---- counting
pub count-cons : {X : Type 0} (p : X → Bool) (x : X) (xs : List X) → count_by p (x ∷ xs) ≡ cond (p x) 1 0 + count_by p xs
count-cons p x xs = sum_by-cons (λ y. cond (p y) 1 0) x xs

count-none : (p : Slot → Bool) (xs : List Slot) → ((k : ℕ) (d : Slot) → k < length xs → p (get_or xs k d) ≡ false) → count_by p xs ≡ 0
count-none p [] h = refl
count-none p (x ∷ xs) h =
    let first : p x ≡ false = h 0 x (omega arith) in
    let none : cond {A = ℕ} (p x) 1 0 ≡ 0 = rw first refl in
    let more = count-cons p x xs in
    let rest = count-none p xs (λ k d l. h (suc k) d (omega (arith, l))) in
    omega (arith, none, more, rest)

-- the place where a test stops passing is how many pass
pub count-parted : (p : Slot → Bool) (xs : List Slot) (place : ℕ) → ((k : ℕ) (d : Slot) → k < place → k < length xs → p (get_or xs k d) ≡ true) → ((k : ℕ) (d : Slot) → place ≤ k → k < length xs → p (get_or xs k d) ≡ false) → place ≤ length xs → place ≡ count_by p xs
count-parted p [] zero f b w = refl
count-parted p [] (suc n) f b w = absurd (omega (arith, w))
count-parted p (x ∷ xs) zero f b w = sym (count-none p (x ∷ xs) (λ k d l. b k d (omega arith) l))
count-parted p (x ∷ xs) (suc n) f b w =
    let first : p x ≡ true = f 0 x (omega arith) (omega arith) in
    let one : cond {A = ℕ} (p x) 1 0 ≡ 1 = rw first refl in
    let more = count-cons p x xs in
    let rest = count-parted p xs n (λ k d l m. f (suc k) d (omega (arith, l)) (omega (arith, m))) (λ k d l m. b (suc k) d (omega (arith, l)) (omega (arith, m))) (omega (arith, w)) in
    omega (arith, one, more, rest)

count-placed : (p : Slot → Bool) (s : Slot) (xs : List Slot) → count_by p (placed s xs) ≡ cond (p s) 1 0 + count_by p xs
unfolding placed
count-placed p s [] = count-cons p s []
count-placed p s (y ∷ ys) = at (before y s) (count-placed p s ys)
  where
    at : (b : Bool) → count_by p (placed s ys) ≡ cond (p s) 1 0 + count_by p ys → count_by p (cond b (y ∷ placed s ys) (s ∷ y ∷ ys)) ≡ cond (p s) 1 0 + count_by p (y ∷ ys)
    at true r =
        let one = count-cons p y (placed s ys) in
        let two = count-cons p y ys in
        omega (arith, r, one, two)
    at false r = count-cons p s (y ∷ ys)

-- the order doesn't count
pub count-in_order : (p : Slot → Bool) (xs : List Slot) → count_by p (in_order xs) ≡ count_by p xs
unfolding in_order
count-in_order p [] = refl
count-in_order p (x ∷ xs) =
    let one = count-placed p x (in_order xs) in
    let two = count-cons p x xs in
    let rest = count-in_order p xs in
    omega (arith, one, two, rest)

pub count-map : {X Y : Type 0} (p : Y → Bool) (f : X → Y) (xs : List X) → count_by p (map f xs) ≡ count_by (λ x. p (f x)) xs
count-map p f [] = refl
count-map p f (x ∷ xs) =
    let one = count-cons p (f x) (map f xs) in
    let two = count-cons (λ y. p (f y)) x xs in
    let rest = count-map p f xs in
    omega (arith, one, two, rest)

-- ---- the slots of a day
not-earlier : (x y : Slot) (day : ℕ) → before y x ≡ false → day ≤ x.day → nat_lt y.day day ≡ false
not-earlier x y day h l = at x.day x.number y.day y.number h l
  where
    at : (a n b m : ℕ) → (nat_lt b a || ((b == a) && nat_lt m n)) ≡ false → day ≤ a → nat_lt b day ≡ false
    at a n b m h l = grind (arith, nat_tests)

not-on : (x y : Slot) (day : ℕ) → before y x ≡ false → day < x.day → (y.day == day) ≡ false
not-on x y day h l = at x.day x.number y.day y.number h l
  where
    at : (a n b m : ℕ) → (nat_lt b a || ((b == a) && nat_lt m n)) ≡ false → day < a → (b == day) ≡ false
    at a n b m h l = grind (arith, nat_tests)

pub none-earlier : (day : ℕ) (x : Slot) (xs : List Slot) → day ≤ x.day → Each (λ (y : Slot). before y x ≡ false) xs → slots_before day xs ≡ 0
none-earlier day x [] l h = refl
none-earlier day x (y ∷ ys) l h =
    let none : cond {A = ℕ} (nat_lt y.day day) 1 0 ≡ 0 = rw (not-earlier x y day h.0 l) refl in
    let more = count-cons (λ (s : Slot). nat_lt s.day day) y ys in
    let rest = none-earlier day x ys l h.1 in
    omega (arith, none, more, rest)

none-on : (day : ℕ) (x : Slot) (xs : List Slot) → day < x.day → Each (λ (y : Slot). before y x ≡ false) xs → on_day day xs ≡ []
none-on day x [] l h = refl
none-on day x (y ∷ ys) l h = rw (not-on x y day h.0 l) (none-on day x ys l h.1)

-- behind the slots of earlier days stand those of the day
pub day-slot : (day : ℕ) (xs : List Slot) (i : ℕ) (d : Slot) → IsAscending xs → i < length (on_day day xs) → slice_get xs (slots_before day xs + i) ≡ Some (get_or (on_day day xs) i d)
unfolding IsAscending
day-slot day [] i d h l = absurd (omega (arith, l))
day-slot day (x ∷ xs) i d h l = by (cases_lt x.day day) (λ j m. day-slot day xs j d h.1 m)
  where
    Found : ℕ → Type 0
    Found j = slice_get xs (slots_before day xs + j) ≡ Some (get_or (on_day day xs) j d)

    here : (j : ℕ) → slots_before day xs ≡ 0 → j < length (x ∷ on_day day xs) → ((k : ℕ) → k < length (on_day day xs) → Found k) → slice_get (x ∷ xs) j ≡ Some (get_or (x ∷ on_day day xs) j d)
    here zero none m ih = refl
    here (suc k) none m ih =
        let start : slots_before day xs + k ≡ k = omega (arith, none) in
        ap (slice_get xs) (sym start) ∙ ih k (omega (arith, m))

    late : (b : Bool) → (x.day == day) ≡ b → day ≤ x.day → ((k : ℕ) → k < length (on_day day xs) → Found k) → slice_get (x ∷ xs) (slots_before day (x ∷ xs) + i) ≡ Some (get_or (on_day day (x ∷ xs)) i d)
    late true e m ih =
        let none = none-earlier day x xs m h.0 in
        let more = count-cons (λ (s : Slot). nat_lt s.day day) x xs in
        let first : cond {A = ℕ} (nat_lt x.day day) 1 0 ≡ 0 = rw (late-lt x.day m) refl in
        let start : slots_before day (x ∷ xs) + i ≡ i = omega (arith, none, more, first) in
        let whole : on_day day (x ∷ xs) ≡ x ∷ on_day day xs = rw e refl in
        let within : i < length (x ∷ on_day day xs) = omega (arith, l, ap length whole) in
        ap (slice_get (x ∷ xs)) start ∙ (here i none within ih ∙ ap (λ ys. Some (get_or ys i d)) (sym whole))
      where
        late-lt : (a : ℕ) → day ≤ a → nat_lt a day ≡ false
        late-lt a m = grind (arith, nat_tests)
    late false e m ih =
        let less : day < x.day = other x.day e m in
        let whole : on_day day (x ∷ xs) ≡ [] = rw e (none-on day x xs less h.0) in
        absurd (omega (arith, l, ap length whole))
      where
        other : (a : ℕ) → (a == day) ≡ false → day ≤ a → day < a
        other a e m = grind (arith, nat_tests)

    early : (a : ℕ) → a < day → (nat_lt a day ≡ true) × ((a == day) ≡ false)
    early a m = (grind (arith, nat_tests), grind (arith, nat_tests))

    by : (x.day < day) ⊎ (day ≤ x.day) → ((k : ℕ) → k < length (on_day day xs) → Found k) → slice_get (x ∷ xs) (slots_before day (x ∷ xs) + i) ≡ Some (get_or (on_day day (x ∷ xs)) i d)
    by (inl m) ih =
        let e = early x.day m in
        let more = count-cons (λ (s : Slot). nat_lt s.day day) x xs in
        let first : cond {A = ℕ} (nat_lt x.day day) 1 0 ≡ 1 = rw e.0 refl in
        let start : slots_before day (x ∷ xs) + i ≡ suc (slots_before day xs + i) = omega (arith, more, first) in
        let whole : on_day day (x ∷ xs) ≡ on_day day xs = rw e.1 refl in
        let within : i < length (on_day day xs) = omega (arith, l, ap length whole) in
        ap (slice_get (x ∷ xs)) start ∙ (ih i within ∙ ap (λ ys. Some (get_or ys i d)) (sym whole))
    by (inr m) ih = late (x.day == day) refl m ih
