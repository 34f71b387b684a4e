-- From a day to the next day with some day of the month.
use Rattle.std.proofs.Common.{◌≡◌, ℕ, zero, suc, ◌+◌, ◌-◌, ◌/◌, ◌%◌, ◌<◌, ◌≤◌, Bool, true, false, cond, eqb, nat_eq, refl, ap, ◌∙◌, arith, inl, inr, ◌⊎◌, eq-eqb, pos}
use Rattle.std.proofs.lemmas.Bool.{ne_eqb, cases_lt}
use Rattle.std.proofs.lemmas.Bool.Decides.{nat_tests}
use Rattle.jiff_core.proofs.CalendarLemmas.{days_in_month_bounds}
use Rattle.card_events.specs.Civil.{month_length, days_of_months, day_at, day_of_month, next_month, year_of_next_month, first_day}
use Rattle.card_events.specs.Billing.{next_on}
use Rattle.card_events.specs.Months.{day_in_month}
use Rattle.card_events.proofs.Counts.{months_same}
use Rattle.card_events.proofs.Dates.{month_more, next_year}
use Rattle.card_events.proofs.DateFacts.{date_of-day_at}
use Rattle.jiff_core.proofs.CalendarLemmas.{days_of_months_all}
use Rattle.jiff_core.specs.Calendar.{days_in_year}

-- ---- the first day that passes
-- where nothing passes before, and the j-th day on passes
pub first_day_is : (p : ℕ → Bool) (j more day : ℕ) → j < more → ((i : ℕ) → i < j → p (day + i) ≡ false) → p (day + j) ≡ true → first_day p more day ≡ day + j
unfolding first_day
first_day_is p j zero day l h e = absurd (omega arith)
first_day_is p zero (suc more) day l h e =
    let same : day + 0 ≡ day = omega arith in
    rw (same, rw same at e) refl
first_day_is p (suc j) (suc more) day l h e =
    let same : day + 0 ≡ day = omega arith in
    let on : (i : ℕ) → day + 1 + i ≡ day + suc i = λ i. omega arith in
    rw (rw same at (h 0 (omega arith))) (first_day_is p j more (day + 1) (omega arith) (λ i m. rw (on i) (h (suc i) (omega arith))) (rw (on j) e) ∙ on j)

first_test : (b : Bool) (day later : ℕ) → day ≤ later → day ≤ cond b day later
first_test true day later l = omega arith
first_test false day later l = l

-- it isn't before the day from which the search starts
pub first_day-from : (p : ℕ → Bool) (more day : ℕ) → day ≤ first_day p more day
unfolding first_day
first_day-from p zero day = omega arith
first_day-from p (suc more) day = first_test (p day) day (first_day p more (day + 1)) (omega (arith, first_day-from p more (day + 1)))

below_test : (b : Bool) (x day later : ℕ) → day ≤ x → x < cond b day later → (b ≡ false) × (x < later)
below_test true x day later low l = absurd (omega arith)
below_test false x day later low l = (refl, l)

-- and no day before it passes
pub first_day-below : (p : ℕ → Bool) (more day x : ℕ) → day ≤ x → x < first_day p more day → p x ≡ false
unfolding first_day
first_day-below p zero day x low l = absurd (omega arith)
first_day-below p (suc more) day x low l = by (cases_lt day x) (below_test (p day) x day (first_day p more (day + 1)) low l) (λ h k. first_day-below p more (day + 1) x h k)
  where
    by : (day < x) ⊎ (x ≤ day) → (p day ≡ false) × (x < first_day p more (day + 1)) → (day + 1 ≤ x → x < first_day p more (day + 1) → p x ≡ false) → p x ≡ false
    by (inl later) h rest = rest (omega arith) h.1
    by (inr same) h rest = let e : x ≡ day = omega arith in rw e h.0

-- ---- days of a month
-- a date whose month every law here reaches
pub record IsCivil (y m d : ℕ) : Type 0 where
  pub year_low : 1970 ≤ y
  pub year_high : y ≤ 2299
  pub month_low : 1 ≤ m
  pub month_high : m ≤ 12
  pub day_low : 1 ≤ d
  pub day_high : d ≤ month_length y m

pub length_bounds : (y m : ℕ) → (month_length y m ≤ 31) × (28 ≤ month_length y m)
length_bounds y m = days_in_month_bounds (pos y) m

pub later_day : (y m d i : ℕ) → 1 ≤ d → day_at y m d + i ≡ day_at y m (d + i)
unfolding day_at
later_day y m d i low = omega arith

pub dated : (y m d : ℕ) → IsCivil y m d → day_of_month (day_at y m d) ≡ d
dated y m d h = ap (λ c. c.day) (date_of-day_at y m d h.year_low (omega (arith, h.year_high)) h.month_low h.month_high h.day_low h.day_high)

-- the next month begins after the days of this one
next_by : (y m : ℕ) (b : Bool) → nat_eq m 12 ≡ b → 1970 ≤ y → 1 ≤ m → m ≤ 12 → day_at (cond b (y + 1) y) (cond b 1 (m + 1)) 1 ≡ day_at y m 1 + month_length y m
unfolding day_at days_of_months
next_by y m true e low m1 m2 =
    let is : m ≡ 12 = grind (arith, nat_tests) in
    let whole : days_of_months y 12 ≡ days_in_year (pos y) = months_same y 12 ∙ days_of_months_all (pos y) in
    rw is (omega (arith, next_year y low, month_more y 12 (omega arith), whole))
next_by y m false e low m1 m2 =
    let back : m + 1 - 1 ≡ m = omega arith in
    rw back (omega (arith, month_more y m m1))

pub next_begins : (y m : ℕ) → 1970 ≤ y → 1 ≤ m → m ≤ 12 → day_at (year_of_next_month y m) (next_month m) 1 ≡ day_at y m 1 + month_length y m
next_begins y m low m1 m2 = next_by y m (nat_eq m 12) refl low m1 m2

next_parts_by : (y m : ℕ) (b : Bool) → nat_eq m 12 ≡ b → m ≤ 12 → (1 ≤ cond b 1 (m + 1)) × (cond b 1 (m + 1) ≤ 12) × (y ≤ cond b (y + 1) y) × (cond b (y + 1) y ≤ y + 1)
next_parts_by y m true e high = (omega arith, omega arith, omega arith, omega arith)
next_parts_by y m false e high = (omega arith, (let other : ¬ (m ≡ 12) = grind (arith, nat_tests) in omega arith), omega arith, omega arith)

pub next_parts : (y m : ℕ) → m ≤ 12 → (1 ≤ next_month m) × (next_month m ≤ 12) × (y ≤ year_of_next_month y m) × (year_of_next_month y m ≤ y + 1)
next_parts y m high = next_parts_by y m (nat_eq m 12) refl high

pub next_civil : (y m e : ℕ) → 1970 ≤ y → y ≤ 2298 → m ≤ 12 → 1 ≤ e → e ≤ 28 → IsCivil (year_of_next_month y m) (next_month m) e
next_civil y m e low high m2 e1 e2 =
    let parts = next_parts y m m2 in
    record {
      year_low = omega (arith, parts.2);
      year_high = omega (arith, parts.3);
      month_low = parts.0;
      month_high = parts.1;
      day_low = e1;
      day_high = omega (arith, length_bounds (year_of_next_month y m) (next_month m));
    }

-- the day that lies over the end of the month
pub over : (y m d i e : ℕ) → IsCivil y m d → 1 ≤ e → d + i ≡ month_length y m + e → day_at y m d + i ≡ day_at (year_of_next_month y m) (next_month m) e
over y m d i e h low sum =
    omega (arith, next_begins y m h.year_low h.month_low h.month_high, later_day y m 1 (d - 1) (omega arith), later_day (year_of_next_month y m) (next_month m) 1 (e - 1) (omega arith), same d h.day_low, same e low, at_same y m (1 + (d - 1)) d (same d h.day_low), at_same (year_of_next_month y m) (next_month m) (1 + (e - 1)) e (same e low))
  where
    same : (n : ℕ) → 1 ≤ n → 1 + (n - 1) ≡ n
    same n l = omega arith

    at_same : (y m a b : ℕ) → a ≡ b → day_at y m a ≡ day_at y m b
    at_same y m a b e = ap (λ n. day_at y m n) e

-- ---- the next day with some day of the month
-- in the same month
pub next_on-here : (y m d e : ℕ) → IsCivil y m d → d ≤ e → e ≤ 28 → next_on e (day_at y m d) ≡ day_at y m e
next_on-here y m d e h low high =
    let k = e - d in
    let at : (i : ℕ) → i ≤ k → day_of_month (day_at y m d + i) ≡ d + i = λ i l.
    ap day_of_month (later_day y m d i h.day_low) ∙ dated y m (d + i) (record {
      year_low = h.year_low;
      year_high = h.year_high;
      month_low = h.month_low;
      month_high = h.month_high;
      day_low = omega (arith, h.day_low);
      day_high = omega (arith, length_bounds y m);
    }) in
    let to : d + k ≡ e = omega arith in
    first_day_is (λ x. eqb (day_of_month x) e) k 31 (day_at y m d) (omega arith)
    (λ i l. ne_eqb _ _ (λ q. omega (arith, at i (omega arith), q)))
    (eq-eqb _ _ (at k (omega arith) ∙ to))
    ∙ later_day y m d k h.day_low ∙ ap (λ n. day_at y m n) to

-- or in the next
pub next_on-over : (y m d e : ℕ) → IsCivil y m d → y ≤ 2298 → 1 ≤ e → e < d → e ≤ 28 → next_on e (day_at y m d) ≡ day_at (year_of_next_month y m) (next_month m) e
next_on-over y m d e h far low less high =
    first_day_is (λ x. eqb (day_of_month x) e) k 31 (day_at y m d) (omega (arith, length_bounds y m, h.day_high))
    (λ i l. ne_eqb _ _ (between i l))
    (eq-eqb _ _ (ap day_of_month (over y m d k e h low (omega (arith, h.day_high))) ∙ dated _ _ e (next_civil y m e h.year_low far h.month_high low high)))
    ∙ over y m d k e h low (omega (arith, h.day_high))
  where
    k : ℕ
    k = month_length y m - d + e

    between : (i : ℕ) → i < k → day_of_month (day_at y m d + i) ≡ e → ⊥
    between i l q = by (cases_lt (month_length y m) (d + i))
      where
        by : (month_length y m < d + i) ⊎ (d + i ≤ month_length y m) → ⊥
        by (inl out) =
            let f = d + i - month_length y m in
            let moved = over y m d i f h (omega arith) (omega arith) in
            let there = ap day_of_month moved ∙ dated _ _ f (next_civil y m f h.year_low far h.month_high (omega arith) (omega (arith, h.day_high))) in
            omega (arith, h.day_high, there, q)
        by (inr inside) =
            let there = ap day_of_month (later_day y m d i h.day_low) ∙ dated y m (d + i) (record {
              year_low = h.year_low;
              year_high = h.year_high;
              month_low = h.month_low;
              month_high = h.month_high;
              day_low = omega (arith, h.day_low);
              day_high = inside;
            }) in
            omega (arith, there, q)

-- from the day after a day of the month up to the 28th: a later day of the same month
pub after-here : (y m c e : ℕ) → IsCivil y m c → c < e → e ≤ 28 → next_on e (day_at y m c + 1) ≡ day_at y m e
after-here y m c e h less high =
    rw (later_day y m c 1 h.day_low) (next_on-here y m (c + 1) e (record {
      year_low = h.year_low;
      year_high = h.year_high;
      month_low = h.month_low;
      month_high = h.month_high;
      day_low = omega arith;
      day_high = omega (arith, length_bounds y m);
    }) (omega arith) high)

-- or a day of the next
pub after-over : (y m c e : ℕ) → IsCivil y m c → y ≤ 2298 → 1 ≤ e → e ≤ c → c ≤ 28 → next_on e (day_at y m c + 1) ≡ day_at (year_of_next_month y m) (next_month m) e
after-over y m c e h far low less high = by (cases_lt c (month_length y m))
  where
    by : (c < month_length y m) ⊎ (month_length y m ≤ c) → next_on e (day_at y m c + 1) ≡ day_at (year_of_next_month y m) (next_month m) e
    by (inl room) = rw (later_day y m c 1 h.day_low) (next_on-over y m (c + 1) e (record {
      year_low = h.year_low;
      year_high = h.year_high;
      month_low = h.month_low;
      month_high = h.month_high;
      day_low = omega arith;
      day_high = omega arith;
    }) far low (omega arith) (omega arith))
    by (inr last) = rw (over y m c 1 1 h (omega arith) (omega (arith, h.day_high))) (next_on-here _ _ 1 e (next_civil y m 1 h.year_low far h.month_high (omega arith) (omega arith)) low (omega arith))

-- ---- months by number
pub next_number : (i : ℕ) → (year_of_next_month (i / 12) (i % 12 + 1) ≡ (i + 1) / 12) × (next_month (i % 12 + 1) ≡ (i + 1) % 12 + 1)
next_number i = by (nat_eq (i % 12 + 1) 12) refl
  where
    by : (b : Bool) → nat_eq (i % 12 + 1) 12 ≡ b → (cond b (i / 12 + 1) (i / 12) ≡ (i + 1) / 12) × (cond b 1 (i % 12 + 1 + 1) ≡ (i + 1) % 12 + 1)
    by true e = let is : i % 12 + 1 ≡ 12 = grind (arith, nat_tests) in (omega arith, omega arith)
    by false e = let not : ¬ (i % 12 + 1 ≡ 12) = grind (arith, nat_tests) in (omega arith, omega arith)

pub month_civil : (i d : ℕ) → 23_640 ≤ i → i < 27_600 → 1 ≤ d → d ≤ 28 → IsCivil (i / 12) (i % 12 + 1) d
month_civil i d low high d1 d2 = record {
  year_low = omega arith;
  year_high = omega arith;
  month_low = omega arith;
  month_high = omega arith;
  day_low = d1;
  day_high = omega (arith, length_bounds (i / 12) (i % 12 + 1));
}

pub same_month-next : (i c e : ℕ) → 23_640 ≤ i → i < 27_588 → 1 ≤ c → c < e → e ≤ 28 → next_on e (day_in_month i c + 1) ≡ day_in_month i e
unfolding day_in_month
same_month-next i c e low high c1 less e2 = after-here _ _ c e (month_civil i c low (omega arith) c1 (omega arith)) less e2

pub next_month-next : (i c e : ℕ) → 23_640 ≤ i → i < 27_588 → 1 ≤ e → e ≤ c → c ≤ 28 → next_on e (day_in_month i c + 1) ≡ day_in_month (i + 1) e
unfolding day_in_month
next_month-next i c e low high e1 less c2 =
    let next = next_number i in
    after-over _ _ c e (month_civil i c low (omega arith) (omega arith) c2) (omega arith) e1 less c2 ∙ ap (λ y. day_at y (next_month (i % 12 + 1)) e) next.0 ∙ ap (λ m. day_at ((i + 1) / 12) m e) next.1
