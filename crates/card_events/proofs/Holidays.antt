-- Holidays in order: a place found, and one more put in.
use Rattle.std.proofs.Common.{◌≡◌, ℕ, zero, suc, ◌+◌, ◌<◌, ◌≤◌, Bool, true, false, cond, ◌||◌, nat_lt, nat_eq, List, [], ◌∷◌, length, get_or, refl, sym, ap, ◌∙◌, arith, Result, Ok, Err, is_ok, MatchResult}
use Rattle.std.proofs.lemmas.Bool.Decides.{nat_tests}
use Rattle.std.specs.List.{insert}
use Rattle.std.specs.List.Sorted.{IsBinarySearchResult}
use Rattle.std.specs.Ordering.{nat_cmp}
use Rattle.std.proofs.lemmas.List.Sorted.{searched}
use Rattle.card_events.specs.Business.{is_holiday, with_holiday}
use Rattle.card_events.specs.Kept.{AreHolidays, IsPlaceOf, IsGapFor}
use Rattle.card_events.specs.Range.{last_request_day}

pub at_least : (low : ℕ) (xs : List ℕ) (i : ℕ) → AreHolidays low xs → i < length xs → (low ≤ get_or xs i 0) × (get_or xs i 0 ≤ last_request_day)
unfolding AreHolidays
at_least low [] i h l = absurd (omega arith)
at_least low (x ∷ xs) zero h l = (h.0, h.1)
at_least low (x ∷ xs) (suc i) h l = let rest = at_least (x + 1) xs i h.2 (omega arith) in (omega (arith, h.0, rest.0), rest.1)

pub rises : (low : ℕ) (xs : List ℕ) → AreHolidays low xs → (i j : ℕ) → i ≤ j → j < length xs → get_or xs i 0 ≤ get_or xs j 0
unfolding AreHolidays
rises low [] h i j m l = absurd (omega arith)
rises low (x ∷ xs) h zero zero m l = omega arith
rises low (x ∷ xs) h zero (suc j) m l = omega (arith, at_least (x + 1) xs j h.2 (omega arith))
rises low (x ∷ xs) h (suc i) zero m l = absurd (omega arith)
rises low (x ∷ xs) h (suc i) (suc j) m l = rises (x + 1) xs h.2 i j (omega arith) (omega arith)

or_right : (a b : Bool) → b ≡ true → (a || b) ≡ true
or_right true b h = refl
or_right false b h = h

pub found : (xs : List ℕ) (day i : ℕ) → i < length xs → get_or xs i 0 ≡ day → is_holiday xs day ≡ true
unfolding is_holiday
found [] day i l e = absurd (omega arith)
found (x ∷ xs) day zero l e = let same : nat_eq day x ≡ true = grind (arith, nat_tests) in rw same refl
found (x ∷ xs) day (suc i) l e = or_right (nat_eq day x) (is_holiday xs day) (found xs day i (omega arith) e)

pub known : (low : ℕ) (xs : List ℕ) (day i : ℕ) → AreHolidays low xs → i < length xs → get_or xs i 0 ≡ day → with_holiday day xs ≡ xs
unfolding with_holiday AreHolidays
known low [] day i h l e = absurd (omega arith)
known low (x ∷ xs) day zero h l e =
    let below : nat_lt day x ≡ false = grind (arith, nat_tests) in
    let same : nat_eq day x ≡ true = grind (arith, nat_tests) in
    rw (below, same) refl
known low (x ∷ xs) day (suc i) h l e =
    let more = at_least (x + 1) xs i h.2 (omega arith) in
    let below : nat_lt day x ≡ false = grind (arith, nat_tests) in
    let same : nat_eq day x ≡ false = grind (arith, nat_tests) in
    rw (below, same) (ap (λ r. x ∷ r) (known (x + 1) xs day i h.2 (omega arith) e))

pub absent : (xs : List ℕ) (day i : ℕ) → IsGapFor xs day i → is_holiday xs day ≡ false
unfolding is_holiday
absent [] day i h = refl
absent (x ∷ xs) day zero h =
    let one = h.after 0 (omega arith) (omega arith) in
    let same : nat_eq day x ≡ false = grind (arith, nat_tests) in
    rw same (absent xs day 0 (record { inside = omega arith; before = λ k l. absurd (omega arith); after = λ k m l. h.after (suc k) (omega arith) (omega arith) }))
absent (x ∷ xs) day (suc i) h =
    let one = h.before 0 (omega arith) in
    let same : nat_eq day x ≡ false = grind (arith, nat_tests) in
    rw same (absent xs day i (record { inside = omega (arith, h.inside); before = λ k l. h.before (suc k) (omega arith); after = λ k m l. h.after (suc k) (omega arith) (omega arith) }))

pub inserted : (xs : List ℕ) (day i : ℕ) → IsGapFor xs day i → with_holiday day xs ≡ insert xs i day
unfolding with_holiday
inserted [] day i h = let first : i ≡ 0 = omega (arith, h.inside) in rw first refl
inserted (x ∷ xs) day zero h =
    let one = h.after 0 (omega arith) (omega arith) in
    let below : nat_lt day x ≡ true = grind (arith, nat_tests) in
    rw below refl
inserted (x ∷ xs) day (suc i) h =
    let one = h.before 0 (omega arith) in
    let below : nat_lt day x ≡ false = grind (arith, nat_tests) in
    let same : nat_eq day x ≡ false = grind (arith, nat_tests) in
    rw (below, same) (ap (λ r. x ∷ r) (inserted xs day i (record { inside = omega (arith, h.inside); before = λ k l. h.before (suc k) (omega arith); after = λ k m l. h.after (suc k) (omega arith) (omega arith) })))

pub keeps_order : (low : ℕ) (xs : List ℕ) (day : ℕ) → AreHolidays low xs → low ≤ day → day ≤ last_request_day → AreHolidays low (with_holiday day xs)
unfolding with_holiday AreHolidays
keeps_order low [] day h l m = (l, m, tt)
keeps_order low (x ∷ xs) day h l m = by (nat_lt day x) (nat_eq day x) refl refl (keeps_order (x + 1) xs day h.2)
  where
    by : (a b : Bool) → nat_lt day x ≡ a → nat_eq day x ≡ b → (x + 1 ≤ day → day ≤ last_request_day → AreHolidays (x + 1) (with_holiday day xs)) → AreHolidays low (cond a (day ∷ x ∷ xs) (cond b (x ∷ xs) (x ∷ with_holiday day xs)))
    by true b e f rest = let less : day < x = grind (arith, nat_tests) in (l, m, (omega arith, h.1, h.2))
    by false true e f rest = h
    by false false e f rest = let more : x < day = grind (arith, nat_tests) in (h.0, h.1, rest (omega arith) m)

-- a day is a holiday afterwards where it is the new one, or was one
pub with_holiday-is : (xs : List ℕ) (day x : ℕ) → is_holiday (with_holiday day xs) x ≡ (nat_eq x day || is_holiday xs x)
unfolding with_holiday is_holiday
with_holiday-is [] day x = refl
with_holiday-is (y ∷ ys) day x = by (nat_lt day y) (nat_eq day y) refl (with_holiday-is ys day x)
  where
    swap : (a b c : Bool) → (a || (b || c)) ≡ (b || (a || c))
    swap true true c = refl
    swap true false c = refl
    swap false b c = refl

    once : (a b : Bool) → a ≡ b → (c : Bool) → (a || c) ≡ (b || (a || c))
    once true true e c = refl
    once false false e c = refl
    once true false e c = cc
    once false true e c = cc

    by : (a b : Bool) → nat_eq day y ≡ b → is_holiday (with_holiday day ys) x ≡ (nat_eq x day || is_holiday ys x) → is_holiday (cond a (day ∷ y ∷ ys) (cond b (y ∷ ys) (y ∷ with_holiday day ys))) x ≡ (nat_eq x day || (nat_eq x y || is_holiday ys x))
    by true b f rest = refl
    by false true f rest = let same : day ≡ y = grind (arith, nat_tests) in once (nat_eq x y) (nat_eq x day) (ap (λ d. nat_eq x d) (sym same)) (is_holiday ys x)
    by false false f rest = ap (λ r. nat_eq x y || r) rest ∙ swap (nat_eq x y) (nat_eq x day) (is_holiday ys x)

-- what a search among the holidays found
pub placed : (r : Result ℕ ℕ) (xs : List ℕ) (day : ℕ) → AreHolidays 0 xs → IsBinarySearchResult (λ y. nat_cmp y day) xs r → MatchResult r (IsPlaceOf xs day) (IsGapFor xs day)
placed r xs day h s = by r (searched xs day r s (rises 0 xs h))
  where
    by : (r : Result ℕ ℕ) → MatchResult r (λ i. (i < length xs) × (get_or xs i 0 ≡ day)) (λ i. (i ≤ length xs) × ((k : ℕ) → k < i → get_or xs k 0 < day) × ((k : ℕ) → i ≤ k → k < length xs → day < get_or xs k 0)) → MatchResult r (IsPlaceOf xs day) (IsGapFor xs day)
    by (Ok i) p = p
    by (Err i) p = record { inside = p.0; before = p.1; after = p.2 }

pub answered : (r : Result ℕ ℕ) (xs : List ℕ) (day : ℕ) → MatchResult r (IsPlaceOf xs day) (IsGapFor xs day) → is_ok r ≡ is_holiday xs day
answered (Ok i) xs day h = sym (found xs day i h.0 h.1)
answered (Err i) xs day h = sym (absent xs day i h)
