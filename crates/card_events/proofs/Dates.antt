-- The date of a day is a date of the calendar, the only one with its number.
use Rattle.std.proofs.Common.{◌≡◌, ℕ, zero, suc, ◌+◌, ◌-◌, ◌*◌, ◌/◌, ◌<◌, ◌≤◌, Bool, true, false, cond, nat_lt, nat_le, refl, sym, ap, ◌∙◌, subst, arith, pos}
use Rattle.std.proofs.lemmas.Bool.Decides.{nat_tests}
use Rattle.jiff_core.specs.Calendar.{days_in_year, day_count, IsCivilDate}
use Rattle.jiff_core.proofs.CalendarLemmas.{days_in_year_bounds, days_of_months_all, day_count-lt_year, day_count-lt_month, day_count-day}
use Rattle.jiff_core.proofs.SignedLemmas.{signed_arith}
use Rattle.card_events.specs.Civil.{Civil, month_length, days_before_year, days_of_months, day_at, year_of, date_in, date_of}
use Rattle.card_events.proofs.Counts.{days_before_year-next, months_same, count_is}

-- a date of the calendar from 1970 on that has this number
pub record HasDate (day : ℕ) (c : Civil) : Type 0 where
  pub number : day_at c.year c.month c.day ≡ day
  pub year_low : 1970 ≤ c.year
  pub year_high : c.year ≤ 2400
  pub month_low : 1 ≤ c.month
  pub month_high : c.month ≤ 12
  pub day_low : 1 ≤ c.day
  pub day_high : c.day ≤ month_length c.year c.month

-- ---- the year
years_low : (k : ℕ) → 365 * k ≤ days_before_year (1970 + k)
years_low zero = omega arith
years_low (suc k) = omega (arith, years_low k, days_before_year-next k, days_in_year_bounds (pos (1970 + k)))

years_high : (k : ℕ) → days_before_year (1970 + k) ≤ 366 * k
years_high zero = unfold days_before_year in omega arith
years_high (suc k) = omega (arith, years_high k, days_before_year-next k, days_in_year_bounds (pos (1970 + k)))

pub next_year : (y : ℕ) → 1970 ≤ y → days_before_year (y + 1) ≡ days_before_year y + days_in_year (pos y)
next_year y low =
    let back : 1970 + (y - 1970) ≡ y = omega arith in
    let on : 1970 + suc (y - 1970) ≡ y + 1 = omega arith in
    rw on at (rw back at (days_before_year-next (y - 1970)))

record HoldsDay (n y : ℕ) : Type 0 where
  low : 1970 ≤ y
  high : y ≤ 2400
  first : days_before_year y ≤ n
  last : n < days_before_year (y + 1)

year_by : (n q : ℕ) (b : Bool) → nat_le (days_before_year (1970 + q + 1)) n ≡ b → 366 * q ≤ n → n < 366 * q + 366 → q ≤ 364 → HoldsDay n (cond b (1970 + q + 1) (1970 + q))
year_by n q true e low high small =
    let one : days_before_year (1970 + q + 1) ≤ n = grind (arith, nat_tests) in
    let two : 1970 + suc (suc q) ≡ 1970 + q + 1 + 1 = omega arith in
    let far = years_low (suc (suc q)) in
    let far' = rw two at far in
    record { low = omega arith; high = omega arith; first = one; last = omega arith }
year_by n q false e low high small =
    record { low = omega arith; high = omega arith; first = omega (arith, years_high q); last = grind (arith, nat_tests) }

year_of-holds : (n : ℕ) → n < 133_000 → HoldsDay n (year_of n)
unfolding year_of
year_of-holds n l = year_by n (n / 366) (nat_le (days_before_year (1970 + n / 366 + 1)) n) refl (omega arith) (omega arith) (omega arith)

-- ---- the month
by_test : (b : Bool) (day : ℕ) (x y : Civil) → (b ≡ true → HasDate day x) → (b ≡ false → HasDate day y) → HasDate day (cond b x y)
by_test true day x y p q = p refl
by_test false day x y p q = q refl

inside : (a b : ℕ) → nat_lt a b ≡ true → a < b
inside a b e = grind (arith, nat_tests)

beyond : (a b : ℕ) → nat_lt a b ≡ false → b ≤ a
beyond a b e = grind (arith, nat_tests)

pub month_more : (y m : ℕ) → 1 ≤ m → days_of_months y m ≡ days_of_months y (m - 1) + month_length y m
unfolding days_of_months
month_more y zero low = absurd (omega arith)
month_more y (suc m) low = let same : suc m - 1 ≡ m = omega arith in rw same refl

here : (y m left : ℕ) → 1970 ≤ y → y ≤ 2400 → 1 ≤ m → m ≤ 12 → left < month_length y m → HasDate (days_before_year y + days_of_months y (m - 1) + left) (record { year = y; month = m; day = left + 1 })
unfolding day_at
here y m left y1 y2 m1 m2 l = record {
  number = omega arith;
  year_low = y1;
  year_high = y2;
  month_low = m1;
  month_high = m2;
  day_low = omega arith;
  day_high = omega arith;
}

walk : (more y m left : ℕ) → 1970 ≤ y → y ≤ 2400 → 1 ≤ m → m + more ≤ 12 → days_of_months y (m - 1) + left < days_of_months y (m + more) → HasDate (days_before_year y + days_of_months y (m - 1) + left) (date_in more y m left)
unfolding date_in
walk zero y m left y1 y2 m1 m2 l =
    let none : m + 0 ≡ m = omega arith in
    here y m left y1 y2 m1 (omega arith) (omega (arith, rw none at l, month_more y m m1))
walk (suc more) y m left y1 y2 m1 m2 l =
    let long = month_more y m m1 in
    let on : m + 1 + more ≡ m + suc more = omega arith in
    let back : m + 1 - 1 ≡ m = omega arith in
    by_test (nat_lt left (month_length y m)) _ _ _ (λ e. here y m left y1 y2 m1 (omega arith) (inside _ _ e))
    (λ e.
    let over : month_length y m ≤ left = beyond left (month_length y m) e in
    let rest = walk more y (m + 1) (left - month_length y m) y1 y2 (omega arith) (omega arith) (rw (on, back) (omega arith)) in
    let same : days_before_year y + days_of_months y m + (left - month_length y m) ≡ days_before_year y + days_of_months y (m - 1) + left = omega arith in
    subst (λ d. HasDate d (date_in more y (m + 1) (left - month_length y m))) same (rw back at rest))

pub date_of-has : (n : ℕ) → n < 133_000 → HasDate n (date_of n)
unfolding date_of days_of_months
date_of-has n l =
    let y = year_of n in
    let holds = year_of-holds n l in
    let whole : days_of_months y 12 ≡ days_in_year (pos y) = months_same y 12 ∙ days_of_months_all (pos y) in
    let found = walk 11 y 1 (n - days_before_year y) holds.low holds.high (omega arith) (omega arith) (omega (arith, holds.first, holds.last, next_year y holds.low)) in
    let same : days_before_year y + 0 + (n - days_before_year y) ≡ n = omega (arith, holds.first) in
    subst (λ d. HasDate d (date_of n)) same found

-- ---- two dates of one day are one
is_civil : (n : ℕ) (c : Civil) → HasDate n c → IsCivilDate (pos c.year) c.month c.day
is_civil n c h = ((omega (arith, signed_arith, h.year_low), omega (arith, signed_arith, h.year_high)), (h.month_low, h.month_high), (h.day_low, h.day_high))

same_year : (y z m n d e : ℕ) → IsCivilDate (pos y) m d → IsCivilDate (pos z) n e → day_count (pos y) m d ≡ day_count (pos z) n e → y ≡ z
same_year y z m n d e a b h =
    let not_less : ¬ (y < z) = λ l. omega (arith, day_count-lt_year (pos y) m d (pos z) n e a b.2.0 (omega (arith, signed_arith))) in
    let not_more : ¬ (z < y) = λ l. omega (arith, day_count-lt_year (pos z) n e (pos y) m d b a.2.0 (omega (arith, signed_arith))) in
    omega arith

same_month : (y m n d e : ℕ) → IsCivilDate (pos y) m d → IsCivilDate (pos y) n e → day_count (pos y) m d ≡ day_count (pos y) n e → m ≡ n
same_month y m n d e a b h =
    let not_less : ¬ (m < n) = λ l. omega (arith, day_count-lt_month (pos y) m d n e a b.2.0 l) in
    let not_more : ¬ (n < m) = λ l. omega (arith, day_count-lt_month (pos y) n e m d b a.2.0 l) in
    omega arith

same_date : (y z m n d e : ℕ) → IsCivilDate (pos y) m d → IsCivilDate (pos z) n e → day_count (pos y) m d ≡ day_count (pos z) n e → (y ≡ z) × (m ≡ n) × (d ≡ e)
same_date y z m n d e a b counts =
    let year : y ≡ z = same_year y z m n d e a b counts in
    let b' : IsCivilDate (pos y) n e = rw year b in
    let counts' : day_count (pos y) m d ≡ day_count (pos y) n e = rw year (rw year at counts) in
    let month : m ≡ n = same_month y m n d e a b' counts' in
    let day : d ≡ e = omega (arith, day_count-day (pos y) m d e a.2.0 b.2.0, rw (← month) at counts') in
    (year, month, day)

pub one_date : (n : ℕ) (a b : Civil) → HasDate n a → HasDate n b → (a.year ≡ b.year) × (a.month ≡ b.month) × (a.day ≡ b.day)
one_date n a b h k =
    same_date a.year b.year a.month b.month a.day b.day (is_civil n a h) (is_civil n b k)
    (count_is a.year a.month a.day h.year_low h.day_low ∙ ap (λ d. 4_371_953 + d) (h.number ∙ sym k.number) ∙ sym (count_is b.year b.month b.day k.year_low k.day_low))

pub made : (a b : Civil) → a.year ≡ b.year → a.month ≡ b.month → a.day ≡ b.day → a ≡ b
made a b y m d =
    let step : (p q : ℕ) (r s : ℕ) (t u : ℕ) → p ≡ q → r ≡ s → t ≡ u → (let x : Civil = record { year = p; month = r; day = t } in x) ≡ record { year = q; month = s; day = u } = λ p q r s t u e f g. cc in
    step a.year b.year a.month b.month a.day b.day y m d

-- a date with the number of a day is its date
pub date_of-is : (n : ℕ) (c : Civil) → n < 133_000 → HasDate n c → date_of n ≡ c
date_of-is n c l h =
    let same = one_date n (date_of n) c (date_of-has n l) h in
    made (date_of n) c same.0 same.1 same.2
