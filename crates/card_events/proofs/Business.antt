-- The next business day.
use Rattle.std.proofs.Common.{◌≡◌, ℕ, zero, suc, ◌+◌, ◌-◌, ◌%◌, ◌<◌, ◌≤◌, max, Bool, true, false, cond, nat_lt, nat_eq, List, [], ◌∷◌, refl, sym, ap, ◌∙◌, arith, inl, inr, ◌⊎◌}
use Rattle.std.proofs.lemmas.Bool.{cases_lt, false≢true}
use Rattle.std.proofs.lemmas.Bool.Decides.{nat_tests}
use Rattle.card_events.specs.Civil.{first_day}
use Rattle.card_events.specs.Business.{is_holiday, is_business, next_business}
use Rattle.card_events.specs.Kept.{AreHolidays}
use Rattle.card_events.proofs.Months.{first_day-from, first_day-below}
use Rattle.card_events.specs.Range.{last_request_day, last_reckoned_day, last_calendar_day}

-- where some day passes, the first one isn't later
pub first_day-at_most : (p : ℕ → Bool) (more day x : ℕ) → day ≤ x → p x ≡ true → first_day p more day ≤ x
first_day-at_most p more day x low e = by (cases_lt x (first_day p more day))
  where
    by : (x < first_day p more day) ⊎ (first_day p more day ≤ x) → first_day p more day ≤ x
    by (inl l) = absurd (false≢true (sym (first_day-below p more day x low l) ∙ e))
    by (inr l) = l

passes_test : (p : ℕ → Bool) (b : Bool) (day later : ℕ) → p day ≡ b → (b ≡ false → p later ≡ true) → p (cond b day later) ≡ true
passes_test p true day later e h = e
passes_test p false day later e h = h refl

-- and the first one passes
pub first_day-passes : (p : ℕ → Bool) (more day x : ℕ) → day ≤ x → x < day + more → p x ≡ true → p (first_day p more day) ≡ true
unfolding first_day
first_day-passes p zero day x low l e = absurd (omega arith)
first_day-passes p (suc more) day x low l e =
    passes_test p (p day) day (first_day p more (day + 1)) refl (λ none. by none (cases_lt day x) (λ h k. first_day-passes p more (day + 1) x h k e))
  where
    by : p day ≡ false → (day < x) ⊎ (x ≤ day) → (day + 1 ≤ x → x < day + 1 + more → p (first_day p more (day + 1)) ≡ true) → p (first_day p more (day + 1)) ≡ true
    by none (inl less) rest = rest (omega arith) (omega arith)
    by none (inr same) rest = let is : x ≡ day = omega arith in absurd (false≢true (sym none ∙ (rw is at e)))

-- no holiday lies after the last one that can be loaded
pub no_holiday : (low : ℕ) (xs : List ℕ) (day : ℕ) → AreHolidays low xs → last_request_day < day → is_holiday xs day ≡ false
unfolding AreHolidays is_holiday
no_holiday low [] day h l = refl
no_holiday low (x ∷ xs) day h l =
    let m = h.1 in
    let same : nat_eq day x ≡ false = grind (arith, nat_tests) in
    rw same (no_holiday (x + 1) xs day h.2 l)

late_business : (xs : List ℕ) (day : ℕ) → AreHolidays 0 xs → last_request_day < day → (day + 3) % 7 < 5 → is_business xs day ≡ true
unfolding is_business
late_business xs day h l w =
    let weekday : nat_lt ((day + 3) % 7) 5 ≡ true = grind (arith, nat_tests) in
    rw (weekday, no_holiday 0 xs day h l) refl

-- a business day comes soon after the last holidays
soon : (xs : List ℕ) (day : ℕ) → AreHolidays 0 xs → (x : ℕ) × (day + 1 ≤ x) × (x ≤ max (last_request_day + 1) (day + 3)) × (is_business xs x ≡ true)
soon xs day h = by (cases_lt last_request_day day) (cases_lt ((day + 1 + 3) % 7) 5) (cases_lt ((day + 2 + 3) % 7) 5)
  where
    by : (last_request_day < day) ⊎ (day ≤ last_request_day) → ((day + 1 + 3) % 7 < 5) ⊎ (5 ≤ (day + 1 + 3) % 7) → ((day + 2 + 3) % 7 < 5) ⊎ (5 ≤ (day + 2 + 3) % 7) → (x : ℕ) × (day + 1 ≤ x) × (x ≤ max (last_request_day + 1) (day + 3)) × (is_business xs x ≡ true)
    by (inr early) a b = (last_request_day + 1, omega arith, omega arith, late_business xs (last_request_day + 1) h (omega arith) (omega arith))
    by (inl late) (inl a) b = (day + 1, omega arith, omega arith, late_business xs (day + 1) h (omega arith) a)
    by (inl late) (inr a) (inl b) = (day + 2, omega arith, omega arith, late_business xs (day + 2) h (omega arith) b)
    by (inl late) (inr a) (inr b) = (day + 3, omega arith, omega arith, late_business xs (day + 3) h (omega arith) (omega arith))

pub next_business-near : (xs : List ℕ) (day : ℕ) → AreHolidays 0 xs → next_business xs day ≤ max (last_request_day + 1) (day + 3)
unfolding next_business
next_business-near xs day h =
    let s = soon xs day h in
    omega (arith, s.2, first_day-at_most (is_business xs) (last_calendar_day - day) (day + 1) s.0 s.1 s.3)

pub next_business-later : (xs : List ℕ) (day : ℕ) → day < next_business xs day
unfolding next_business
next_business-later xs day = omega (arith, first_day-from (is_business xs) (last_calendar_day - day) (day + 1))

pub next_business-is : (xs : List ℕ) (day : ℕ) → AreHolidays 0 xs → day ≤ last_reckoned_day → is_business xs (next_business xs day) ≡ true
unfolding next_business
next_business-is xs day h small =
    let s = soon xs day h in
    first_day-passes (is_business xs) (last_calendar_day - day) (day + 1) s.0 s.1 (omega (arith, s.2)) s.3

-- the same day is found from a later day, where none passed between
pub skip : (p : ℕ → Bool) (more day n : ℕ) → n ≡ suc more → p day ≡ false → first_day p n day ≡ first_day p more (day + 1)
unfolding first_day
skip p more day n e none = rw (e, none) refl

pub stay : (p : ℕ → Bool) (more day n : ℕ) → n ≡ suc more → p day ≡ true → first_day p n day ≡ day
unfolding first_day
stay p more day n e is = rw (e, is) refl

-- ---- the search, day by day
pub starts : (xs : List ℕ) (day next : ℕ) → next ≡ day + 1 → first_day (is_business xs) (48_577 - next) next ≡ next_business xs day
unfolding next_business
starts xs day next e =
    let room : 48_577 - (day + 1) ≡ last_calendar_day - day = omega arith in
    rw e (ap (λ n. first_day (is_business xs) n (day + 1)) room)

pub small : (xs : List ℕ) (day next : ℕ) → AreHolidays 0 xs → day ≤ last_reckoned_day → first_day (is_business xs) (48_577 - next) next ≡ next_business xs day → next ≤ 47_849
small xs day next h l e = omega (arith, first_day-from (is_business xs) (48_577 - next) next, next_business-near xs day h)

pub goes_on : (xs : List ℕ) (day next later : ℕ) → AreHolidays 0 xs → day ≤ last_reckoned_day → first_day (is_business xs) (48_577 - next) next ≡ next_business xs day → is_business xs next ≡ false → later ≡ next + 1 → first_day (is_business xs) (48_577 - later) later ≡ next_business xs day
goes_on xs day next later h l e none s =
    let low = small xs day next h l e in
    let room : 48_577 - next ≡ suc (48_577 - (next + 1)) = omega arith in
    rw s (sym (skip (is_business xs) (48_577 - (next + 1)) next (48_577 - next) room none) ∙ e)

pub stops : (xs : List ℕ) (day next : ℕ) → AreHolidays 0 xs → day ≤ last_reckoned_day → first_day (is_business xs) (48_577 - next) next ≡ next_business xs day → is_business xs next ≡ true → next ≡ next_business xs day
stops xs day next h l e is =
    let low = small xs day next h l e in
    let room : 48_577 - next ≡ suc (48_577 - (next + 1)) = omega arith in
    sym (stay (is_business xs) (48_577 - (next + 1)) next (48_577 - next) room is) ∙ e
