-- The places of days.
use Rattle.std.proofs.Common.{◌≡◌, ℕ, zero, suc, ◌+◌, ◌<◌, ◌≤◌, true, false, cond, ◌&&◌, ◌||◌, ◌==◌, nat_lt, List, [], ◌∷◌, length, map, refl, subst, arith, get_or, inl, inr, ◌⊎◌}
use Rattle.std.specs.List.{count_by}
use Rattle.std.proofs.lemmas.Bool.{cases_lt}
use Rattle.std.proofs.lemmas.Bool.Decides.{nat_tests}
use Rattle.std.proofs.lemmas.List.{nil_from_length}
use Rattle.std.proofs.lemmas.List.Sums.{length-filter}
use Rattle.card_events.specs.History.{CorrectedPost, corrected, slot_of}
use Rattle.card_events.specs.declared.kept.Slot.{Slot}
use Rattle.card_posts.specs.Change.{on}
use Rattle.card_posts.specs.Order.{Each, IsAscending, before}
use Rattle.card_posts.specs.Posted.{folding_order}
use Rattle.card_posts.proofs.Ordered.{ascending-in_order}
use Rattle.card_rates.specs.Days.{place_of, slots_before}
use Rattle.card_rates.specs.SlotLaws.{IsCut, PlacesOfDays}
use Rattle.card_rates.proofs.Ordered.{count-cons, none-earlier}
use Rattle.card_rates.proofs.Posts.{before-is}

lt-true : (a b : ℕ) → a < b → nat_lt a b ≡ true
lt-true a b h = grind (arith, nat_tests)

lt-false : (a b : ℕ) → b ≤ a → nat_lt a b ≡ false
lt-false a b h = grind (arith, nat_tests)

eq-false-less : (a b : ℕ) → a < b → (a == b) ≡ false
eq-false-less a b h = grind (arith, nat_tests)

eq-false-more : (a b : ℕ) → b < a → (a == b) ≡ false
eq-false-more a b h = grind (arith, nat_tests)

eq-true : (a b : ℕ) → a ≤ b → b ≤ a → (a == b) ≡ true
eq-true a b h g = grind (arith, nat_tests)

-- ---- every slot before the place is of an earlier day, and none from it on is
each-get : (P : Slot → Type 0) (xs : List Slot) (k : ℕ) (d : Slot) → Each P xs → k < length xs → P (get_or xs k d)
each-get P [] k d h l = absurd (omega (arith, l))
each-get P (x ∷ xs) zero d h l = h.0
each-get P (x ∷ xs) (suc k) d h l = each-get P xs k d h.1 (omega (arith, l))

after : (day : ℕ) (x y : Slot) → before y x ≡ false → day ≤ x.day → day ≤ y.day
after day x y h l = at x.day x.number y.day y.number h l
  where
    at : (a n b m : ℕ) → (nat_lt b a || ((b == a) && nat_lt m n)) ≡ false → day ≤ a → day ≤ b
    at a n b m h l = grind (arith, nat_tests)

cut-of : (day : ℕ) (xs : List Slot) → IsAscending xs → IsCut xs day (slots_before day xs)
unfolding IsAscending
cut-of day [] h = record { front = λ k d l m. absurd (omega (arith, m)); back = λ k d l m. absurd (omega (arith, m)); within = omega arith }
cut-of day (x ∷ xs) h = by (cases_lt x.day day) (cut-of day xs h.1)
  where
    early-front : x.day < day → (n : ℕ) → IsCut xs day n → (k : ℕ) (d : Slot) → k < suc n → k < length (x ∷ xs) → (get_or (x ∷ xs) k d).day < day
    early-front e n ih zero d l m = e
    early-front e n ih (suc k) d l m = ih.front k d (omega (arith, l)) (omega (arith, m))

    early-back : (n : ℕ) → IsCut xs day n → (k : ℕ) (d : Slot) → suc n ≤ k → k < length (x ∷ xs) → day ≤ (get_or (x ∷ xs) k d).day
    early-back n ih zero d l m = absurd (omega (arith, l))
    early-back n ih (suc k) d l m = ih.back k d (omega (arith, l)) (omega (arith, m))

    late-back : day ≤ x.day → (k : ℕ) (d : Slot) → k < length (x ∷ xs) → day ≤ (get_or (x ∷ xs) k d).day
    late-back e zero d m = e
    late-back e (suc k) d m = after day x (get_or xs k d) (each-get (λ (y : Slot). before y x ≡ false) xs k d h.0 (omega (arith, m))) e

    by : (x.day < day) ⊎ (day ≤ x.day) → IsCut xs day (slots_before day xs) → IsCut (x ∷ xs) day (slots_before day (x ∷ xs))
    by (inl e) ih =
        let more = count-cons (λ (s : Slot). nat_lt s.day day) x xs in
        let first : cond {A = ℕ} (nat_lt x.day day) 1 0 ≡ 1 = rw (lt-true x.day day e) refl in
        let start : suc (slots_before day xs) ≡ slots_before day (x ∷ xs) = omega (arith, more, first) in
        let within = ih.within in
        subst (λ p. IsCut (x ∷ xs) day p) start (record { front = early-front e (slots_before day xs) ih; back = early-back (slots_before day xs) ih; within = omega (arith, within) })
    by (inr e) ih =
        let more = count-cons (λ (s : Slot). nat_lt s.day day) x xs in
        let first : cond {A = ℕ} (nat_lt x.day day) 1 0 ≡ 0 = rw (lt-false x.day day e) refl in
        let rest = none-earlier day x xs e h.0 in
        let start : 0 ≡ slots_before day (x ∷ xs) = omega (arith, more, first, rest) in
        subst (λ p. IsCut (x ∷ xs) day p) start (record { front = λ k d l m. absurd (omega (arith, l)); back = λ k d l m. late-back e k d m; within = omega arith })

-- ---- the next day's place
split : (d day : ℕ) → cond {A = ℕ} (nat_lt d (day + 1)) 1 0 ≡ cond (nat_lt d day) 1 0 + cond (d == day) 1 0
split d day = by (cases_lt d day) (cases_lt day d)
  where
    by : (d < day) ⊎ (day ≤ d) → (day < d) ⊎ (d ≤ day) → cond {A = ℕ} (nat_lt d (day + 1)) 1 0 ≡ cond (nat_lt d day) 1 0 + cond (d == day) 1 0
    by (inl l) m = rw (lt-true d (day + 1) (omega (arith, l)), lt-true d day l, eq-false-less d day l) refl
    by (inr l) (inl m) = rw (lt-false d (day + 1) (omega (arith, m)), lt-false d day l, eq-false-more d day m) refl
    by (inr l) (inr m) = rw (lt-true d (day + 1) (omega (arith, m)), lt-false d day l, eq-true d day m l) refl

counts : (posts : List CorrectedPost) (day : ℕ) → place_of (day + 1) posts ≡ place_of day posts + count_by (λ p. p.day == day) posts
counts [] day = refl
counts (p ∷ ps) day =
    let one = count-cons (λ (q : CorrectedPost). nat_lt q.day (day + 1)) p ps in
    let two = count-cons (λ (q : CorrectedPost). nat_lt q.day day) p ps in
    let three = count-cons (λ (q : CorrectedPost). q.day == day) p ps in
    let first = split p.day day in
    let rest = counts ps day in
    omega (arith, one, two, three, first, rest)

next : (posts : List CorrectedPost) (day : ℕ) → place_of (day + 1) posts ≡ place_of day posts + length (on day posts)
next posts day =
    let long = length-filter (λ (p : CorrectedPost). p.day == day) posts in
    let all = counts posts day in
    omega (arith, long, all)

-- ---- no later day has an earlier place
one-le : (d a b : ℕ) → a ≤ b → cond {A = ℕ} (nat_lt d a) 1 0 ≤ cond {A = ℕ} (nat_lt d b) 1 0
one-le d a b l = by (cases_lt d a)
  where
    by : (d < a) ⊎ (a ≤ d) → cond {A = ℕ} (nat_lt d a) 1 0 ≤ cond {A = ℕ} (nat_lt d b) 1 0
    by (inl m) =
        let one : cond {A = ℕ} (nat_lt d a) 1 0 ≡ 1 = rw (lt-true d a m) refl in
        let two : cond {A = ℕ} (nat_lt d b) 1 0 ≡ 1 = rw (lt-true d b (omega (arith, l, m))) refl in
        omega (arith, one, two)
    by (inr m) =
        let none : cond {A = ℕ} (nat_lt d a) 1 0 ≡ 0 = rw (lt-false d a m) refl in
        omega (arith, none)

place-le : (posts : List CorrectedPost) (a b : ℕ) → a ≤ b → place_of a posts ≤ place_of b posts
place-le [] a b l = omega arith
place-le (p ∷ ps) a b l =
    let one = count-cons (λ (q : CorrectedPost). nat_lt q.day a) p ps in
    let two = count-cons (λ (q : CorrectedPost). nat_lt q.day b) p ps in
    let first = one-le p.day a b l in
    let rest = place-le ps a b l in
    omega (arith, one, two, first, rest)

pub of_days : PlacesOfDays
of_days = record {
  cut = λ a holidays history day.
      let posts = corrected a holidays history in
      subst (λ p. IsCut (folding_order posts) day p) (before-is day posts) (cut-of day (folding_order posts) (ascending-in_order (map slot_of posts)));
  next = next;
  quiet = λ posts day later x same l m.
      let one = next posts x in
      let low = place-le posts day x l in
      let high = place-le posts (x + 1) later (omega (arith, m)) in
      nil_from_length (on x posts) (omega (arith, one, low, high, same));
}
