-- Closings, due dates and cycles by the number of their month.
use Rattle.std.proofs.Common.{◌≡◌, ℕ, zero, suc, ◌+◌, ◌-◌, ◌*◌, ◌/◌, ◌%◌, ◌<◌, ◌≤◌, Bool, true, false, cond, eqb, nat_lt, nat_le, nat_eq, refl, sym, ap, ◌∙◌, subst, arith, inl, inr, ◌⊎◌, eq-eqb}
use Rattle.std.proofs.lemmas.Bool.{cases_lt, false≢true}
use Rattle.std.proofs.lemmas.Bool.Decides.{nat_tests}
use Rattle.card_events.specs.Range.{last_calendar_day, first_calendar_day}
use Rattle.card_events.specs.declared.anchor.Anchor.{Anchor}
use Rattle.card_events.specs.Civil.{month_length, day_at, date_of, day_of_month, next_month, year_of_next_month, is_date}
use Rattle.card_events.specs.Billing.{next_on, closing, due_day_of_month, due_after, due, closings_among, cycle_of}
use Rattle.card_events.specs.Months.{month_number, day_in_month, month_from, first_month, due_shift}
use Rattle.card_events.proofs.DateFacts.{date_of-day_at, day_at-date_of, day_at-range, from_calendar, after_first, day_2103, date_of-in_calendar}
use Rattle.card_events.proofs.Months.{first_day-from, first_day-below, IsCivil, next_on-here, next_on-over, next_number, month_civil, same_month-next, next_month-next, later_day, over, next_civil, dated, length_bounds}

-- ---- days of months by number
pub number_parts : (y m : ℕ) → 1 ≤ m → m ≤ 12 → ((12 * y + (m - 1)) / 12 ≡ y) × ((12 * y + (m - 1)) % 12 + 1 ≡ m)
number_parts y m low high = (omega arith, omega arith)

pub at_number : (y m d : ℕ) → 1 ≤ m → m ≤ 12 → day_in_month (12 * y + (m - 1)) d ≡ day_at y m d
unfolding day_in_month
at_number y m d low high =
    let parts = number_parts y m low high in
    ap (λ u. day_at u ((12 * y + (m - 1)) % 12 + 1) d) parts.0 ∙ ap (λ u. day_at y u d) parts.1

pub at_next_number : (y m d : ℕ) → 1 ≤ m → m ≤ 12 → day_in_month (12 * y + (m - 1) + 1) d ≡ day_at (year_of_next_month y m) (next_month m) d
unfolding day_in_month
at_next_number y m d low high =
    let parts = number_parts y m low high in
    let next = next_number (12 * y + (m - 1)) in
    ap (λ u. day_at u ((12 * y + (m - 1) + 1) % 12 + 1) d) (sym next.0) ∙ ap (λ u. day_at (year_of_next_month ((12 * y + (m - 1)) / 12) ((12 * y + (m - 1)) % 12 + 1)) u d) (sym next.1)
    ∙ ap (λ u. day_at (year_of_next_month u ((12 * y + (m - 1)) % 12 + 1)) (next_month ((12 * y + (m - 1)) % 12 + 1)) d) parts.0 ∙ ap (λ u. day_at (year_of_next_month y u) (next_month u) d) parts.1

in_years : (i : ℕ) → 24_132 ≤ i → i ≤ 25_235 → (2011 ≤ i / 12) × (i / 12 ≤ 2102) × (1 ≤ i % 12 + 1) × (i % 12 + 1 ≤ 12)
in_years i low high = (omega arith, omega arith, omega arith, omega arith)

pub month-is_date : (i d : ℕ) → 24_132 ≤ i → i ≤ 25_235 → 1 ≤ d → d ≤ 28 → is_date (i / 12) (i % 12 + 1) d ≡ true
month-is_date i d low high d1 d2 =
    let parts = in_years i low high in
    from_calendar _ _ _ (record { low_year = parts.0; high_year = parts.1; low_month = parts.2; high_month = parts.3; low_day = d1; high_day = omega (arith, length_bounds (i / 12) (i % 12 + 1)) })

pub day_in_month-range : (i d : ℕ) → 24_132 ≤ i → i ≤ 25_235 → 1 ≤ d → d ≤ 28 → (first_calendar_day ≤ day_in_month i d) × (day_in_month i d ≤ last_calendar_day)
unfolding day_in_month
day_in_month-range i d low high d1 d2 = day_at-range _ _ _ (month-is_date i d low high d1 d2)

pub day_in_month-late : (i d : ℕ) → 25_236 ≤ i → 1 ≤ d → 48_577 ≤ day_in_month i d
unfolding day_in_month
day_in_month-late i d low d1 = omega (arith, after_first (i / 12) (i % 12 + 1) d 2103 (omega arith) (omega arith) d1, day_2103)

-- the next day with some day of the month lies in the month that its number says
next_by : (y m d c : ℕ) (b : Bool) → nat_lt c d ≡ b → IsCivil y m d → y ≤ 2298 → 1 ≤ c → c ≤ 28 → next_on c (day_at y m d) ≡ day_in_month (12 * y + (m - 1) + cond b 1 0) c
next_by y m d c true e h far low high =
    let less : c < d = grind (arith, nat_tests) in
    next_on-over y m d c h far low less high ∙ sym (at_next_number y m c h.month_low h.month_high)
next_by y m d c false e h far low high =
    let less : d ≤ c = grind (arith, nat_tests) in
    let none : 12 * y + (m - 1) + 0 ≡ 12 * y + (m - 1) = omega arith in
    next_on-here y m d c h less high ∙ sym (at_number y m c h.month_low h.month_high) ∙ ap (λ i. day_in_month i c) (sym none)

pub date_civil : (n : ℕ) → first_calendar_day ≤ n → n ≤ last_calendar_day → IsCivil (date_of n).year (date_of n).month (date_of n).day
date_civil n low high =
    let h = date_of-in_calendar n low high in
    record {
      year_low = omega (arith, h.low_year);
      year_high = omega (arith, h.high_year);
      month_low = h.low_month;
      month_high = h.high_month;
      day_low = h.low_day;
      day_high = h.high_day;
    }

pub next_on-number : (n c : ℕ) → first_calendar_day ≤ n → n ≤ last_calendar_day → 1 ≤ c → c ≤ 28 → next_on c n ≡ day_in_month (month_from c (date_of n)) c
next_on-number n c low high c1 c2 =
    let h = date_of-in_calendar n low high in
    ap (λ x. next_on c x) (sym (day_at-date_of n (omega arith)))
    ∙ next_by (date_of n).year (date_of n).month (date_of n).day c (nat_lt c (date_of n).day) refl (date_civil n low high) (omega (arith, h.high_year)) c1 c2

-- the month of the first closing, of a day of the calendar
month_from-test : (b : Bool) (n : ℕ) → (n ≤ n + cond b 1 0) × (n + cond b 1 0 ≤ n + 1)
month_from-test true n = (omega arith, omega arith)
month_from-test false n = (omega arith, omega arith)

pub month_from-bounds : (n c : ℕ) → first_calendar_day ≤ n → n ≤ last_calendar_day → (24_132 ≤ month_from c (date_of n)) × (month_from c (date_of n) ≤ 25_236)
month_from-bounds n c low high =
    let h = date_of-in_calendar n low high in
    let t = month_from-test (nat_lt c (date_of n).day) (month_number (date_of n)) in
    (omega (arith, t.0, h.low_year), omega (arith, t.1, h.high_year, h.high_month))

-- ---- closings
-- an anchor as accounts have it
pub record IsAnchor (a : Anchor) : Type 0 where
  pub first : first_calendar_day ≤ a.opened
  pub last : a.opened ≤ last_calendar_day
  pub low : 1 ≤ a.close_day
  pub high : a.close_day ≤ 28

pub first_month-bounds : (a : Anchor) → IsAnchor a → (24_132 ≤ first_month a) × (first_month a ≤ 25_236)
unfolding first_month
first_month-bounds a h = month_from-bounds a.opened a.close_day h.first h.last

pub closing_is : (a : Anchor) → IsAnchor a → (k : ℕ) → first_month a + k ≤ 26_000 → closing a (suc k) ≡ day_in_month (first_month a + k) a.close_day
unfolding closing first_month
closing_is a h zero small =
    let open_day : a.opened - 1 + 1 ≡ a.opened = omega (arith, h.first) in
    let none : first_month a + 0 ≡ first_month a = omega arith in
    ap (λ x. next_on a.close_day x) open_day ∙ next_on-number a.opened a.close_day h.first h.last h.low h.high ∙ ap (λ i. day_in_month i a.close_day) (sym none)
closing_is a h (suc k) small =
    let bounds = month_from-bounds a.opened a.close_day h.first h.last in
    let on : first_month a + k + 1 ≡ first_month a + suc k = omega arith in
    ap (λ x. next_on a.close_day (x + 1)) (closing_is a h k (omega arith))
    ∙ next_month-next (first_month a + k) a.close_day a.close_day (omega (arith, bounds.0)) (omega arith) h.low (omega arith) h.high
    ∙ ap (λ i. day_in_month i a.close_day) on

pub closing_grows : (a : Anchor) (k : ℕ) → closing a k + 1 ≤ closing a (suc k)
unfolding closing
closing_grows a k = first_day-from (λ d. eqb (day_of_month d) a.close_day) 31 (closing a k + 1)

-- past the last month of the calendar
pub closing_late : (a : Anchor) → IsAnchor a → (k : ℕ) → 25_236 ≤ first_month a + k → 48_577 ≤ closing a (suc k)
closing_late a h zero late =
    omega (arith, closing_is a h zero (omega (arith, first_month-bounds a h)), day_in_month-late (first_month a + 0) a.close_day late h.low)
closing_late a h (suc k) late = by (cases_lt (first_month a + k) 25_236) (closing_late a h k)
  where
    by : (first_month a + k < 25_236) ⊎ (25_236 ≤ first_month a + k) → (25_236 ≤ first_month a + k → 48_577 ≤ closing a (suc k)) → 48_577 ≤ closing a (suc (suc k))
    by (inl l) before = omega (arith, closing_is a h (suc k) (omega arith), day_in_month-late (first_month a + suc k) a.close_day late h.low)
    by (inr m) before = omega (arith, before m, closing_grows a (suc k))

-- ---- due dates
due_day_by : (c : ℕ) (b : Bool) → nat_le c 4 ≡ b → 1 ≤ c → c ≤ 28 → (1 ≤ cond b (c + 24) (c - 4)) × (cond b (c + 24) (c - 4) ≤ 28)
due_day_by c true e low high = let early : c ≤ 4 = grind (arith, nat_tests) in (omega arith, omega arith)
due_day_by c false e low high = let late : 4 < c = grind (arith, nat_tests) in (omega arith, omega arith)

pub due_day-bounds : (c : ℕ) → 1 ≤ c → c ≤ 28 → (1 ≤ due_day_of_month c) × (due_day_of_month c ≤ 28)
due_day-bounds c low high = due_day_by c (nat_le c 4) refl low high

due_by : (i c : ℕ) (b : Bool) → nat_le c 4 ≡ b → 23_640 ≤ i → i ≤ 26_000 → 1 ≤ c → c ≤ 28 → next_on (cond b (c + 24) (c - 4)) (day_in_month i c + 1) ≡ day_in_month (i + cond b 0 1) (cond b (c + 24) (c - 4))
due_by i c true e low high c1 c2 =
    let early : c ≤ 4 = grind (arith, nat_tests) in
    let none : i + 0 ≡ i = omega arith in
    same_month-next i c (c + 24) low (omega arith) c1 (omega arith) (omega arith) ∙ ap (λ u. day_in_month u (c + 24)) (sym none)
due_by i c false e low high c1 c2 =
    let late : 4 < c = grind (arith, nat_tests) in
    next_month-next i c (c - 4) low (omega arith) (omega arith) (omega arith) c2

pub due_after-is : (i c : ℕ) → 23_640 ≤ i → i ≤ 26_000 → 1 ≤ c → c ≤ 28 → due_after c (day_in_month i c) ≡ day_in_month (i + due_shift c) (due_day_of_month c)
unfolding due_after due_shift
due_after-is i c low high c1 c2 = due_by i c (nat_le c 4) refl low high c1 c2

pub due_is : (a : Anchor) → IsAnchor a → (k : ℕ) → first_month a + k ≤ 26_000 → due a (suc k) ≡ day_in_month (first_month a + k + due_shift a.close_day) (due_day_of_month a.close_day)
due_is a h k small =
    ap (λ x. due_after a.close_day x) (closing_is a h k small) ∙ due_after-is (first_month a + k) a.close_day (omega (arith, first_month-bounds a h)) small h.low h.high

pub due_grows : (c n : ℕ) → n + 1 ≤ due_after c n
unfolding due_after
due_grows c n = first_day-from (λ d. eqb (day_of_month d) (due_day_of_month c)) 31 (n + 1)

shift_by : (b : Bool) → cond b 0 1 ≤ 1
shift_by true = omega arith
shift_by false = omega arith

pub shift_small : (c : ℕ) → due_shift c ≤ 1
unfolding due_shift
shift_small c = shift_by (nat_le c 4)

pub due_late : (a : Anchor) → IsAnchor a → (k : ℕ) → 25_236 ≤ first_month a + k + due_shift a.close_day → 48_577 ≤ due a (suc k)
due_late a h k late = by (cases_lt (first_month a + k) 25_236)
  where
    by : (first_month a + k < 25_236) ⊎ (25_236 ≤ first_month a + k) → 48_577 ≤ due a (suc k)
    by (inl l) = omega (arith, due_is a h k (omega arith), day_in_month-late (first_month a + k + due_shift a.close_day) (due_day_of_month a.close_day) late (due_day-bounds a.close_day h.low h.high).0)
    by (inr m) = omega (arith, closing_late a h k m, due_grows a.close_day (closing a (suc k)))

-- ---- cycles
month_step-by : (c d : ℕ) (n : ℕ) → n + cond (nat_lt c (d + 1)) 1 0 ≡ n + cond (nat_lt c d) 1 0 + cond (nat_eq d c) 1 0
month_step-by c d n = grind (arith, nat_tests)

month_over-by : (c d : ℕ) (n : ℕ) → 1 ≤ c → c ≤ 28 → 28 ≤ d → n + 1 + cond (nat_lt c 1) 1 0 ≡ n + cond (nat_lt c d) 1 0 + cond (nat_eq d c) 1 0
month_over-by c d n low high long = grind (arith, nat_tests)

number_by : (y m : ℕ) (b : Bool) → nat_eq m 12 ≡ b → 1 ≤ m → m ≤ 12 → 12 * cond b (y + 1) y + (cond b 1 (m + 1) - 1) ≡ 12 * y + (m - 1) + 1
number_by y m true e low high = let is : m ≡ 12 = grind (arith, nat_tests) in omega arith
number_by y m false e low high = omega arith

number_next : (y m : ℕ) → 1 ≤ m → m ≤ 12 → 12 * year_of_next_month y m + (next_month m - 1) ≡ 12 * y + (m - 1) + 1
number_next y m low high = number_by y m (nat_eq m 12) refl low high

step_in : (y m d c : ℕ) → IsCivil y m d → y ≤ 2298 → 1 ≤ c → c ≤ 28 → month_from c (date_of (day_at y m d + 1)) ≡ month_from c (record { year = y; month = m; day = d }) + cond (nat_eq d c) 1 0
step_in y m d c h far low high = by (cases_lt d (month_length y m))
  where
    by : (d < month_length y m) ⊎ (month_length y m ≤ d) → month_from c (date_of (day_at y m d + 1)) ≡ month_from c (record { year = y; month = m; day = d }) + cond (nat_eq d c) 1 0
    by (inl room) =
        ap (λ x. month_from c (date_of x)) (later_day y m d 1 h.day_low)
        ∙ ap (λ x. month_from c x) (date_of-day_at y m (d + 1) h.year_low (omega (arith, h.year_high)) h.month_low h.month_high (omega arith) (omega arith))
        ∙ month_step-by c d (12 * y + (m - 1))
    by (inr last) =
        let next = next_civil y m 1 h.year_low far h.month_high (omega arith) (omega arith) in
        ap (λ x. month_from c (date_of x)) (over y m d 1 1 h (omega arith) (omega (arith, h.day_high)))
        ∙ ap (λ x. month_from c x) (date_of-day_at _ _ 1 next.year_low (omega (arith, next.year_high)) next.month_low next.month_high (omega arith) next.day_high)
        ∙ ap (λ x. x + cond (nat_lt c 1) 1 0) (number_next y m h.month_low h.month_high)
        ∙ month_over-by c d (12 * y + (m - 1)) low high (omega (arith, length_bounds y m))

pub month_step : (n c : ℕ) → first_calendar_day ≤ n → n ≤ last_calendar_day → 1 ≤ c → c ≤ 28 → month_from c (date_of (n + 1)) ≡ month_from c (date_of n) + cond (nat_eq (day_of_month n) c) 1 0
month_step n c low high c1 c2 =
    let h = date_of-in_calendar n low high in
    ap (λ x. month_from c (date_of (x + 1))) (sym (day_at-date_of n (omega arith)))
    ∙ step_in (date_of n).year (date_of n).month (date_of n).day c (date_civil n low high) (omega (arith, h.high_year)) c1 c2

-- so many closings lie among these days
pub closings_counted : (c first n : ℕ) → first_calendar_day ≤ first → first + n ≤ last_calendar_day → 1 ≤ c → c ≤ 28 → closings_among c first n + month_from c (date_of first) ≡ month_from c (date_of (first + n))
unfolding closings_among
closings_counted c first zero low high c1 c2 =
    let none : first + 0 ≡ first = omega arith in
    omega (arith, ap (λ x. month_from c (date_of x)) none)
closings_counted c first (suc n) low high c1 c2 =
    let on : first + n + 1 ≡ first + suc n = omega arith in
    omega (arith, closings_counted c first n low (omega arith) c1 c2, month_step (first + n) c (omega arith) (omega arith) c1 c2, ap (λ x. month_from c (date_of x)) on)

pub cycle_is : (a : Anchor) → IsAnchor a → (day : ℕ) → a.opened ≤ day → day ≤ last_calendar_day → cycle_of a day + first_month a ≡ month_from a.close_day (date_of day) + 1
unfolding cycle_of first_month
cycle_is a h day low high =
    let whole : a.opened + (day - a.opened) ≡ day = omega arith in
    omega (arith, closings_counted a.close_day a.opened (day - a.opened) h.first (omega arith) h.low h.high, ap (λ x. month_from a.close_day (date_of x)) whole)

-- ---- the cycle holds the day
pub closing-day : (a : Anchor) → IsAnchor a → (k : ℕ) → first_month a + k ≤ 26_000 → day_of_month (closing a (suc k)) ≡ a.close_day
unfolding day_in_month
closing-day a h k small =
    ap day_of_month (closing_is a h k small) ∙ dated _ _ a.close_day (month_civil (first_month a + k) a.close_day (omega (arith, first_month-bounds a h)) (omega arith) h.low h.high)

-- the next closing day from a day of a cycle on is the closing of that cycle
cycle_closing : (a : Anchor) → IsAnchor a → (day q : ℕ) → a.opened ≤ day → day ≤ last_calendar_day → cycle_of a day ≡ suc q → closing a (suc q) ≡ next_on a.close_day day
cycle_closing a h day q low high e =
    let count = cycle_is a h day low high in
    let bounds = month_from-bounds day a.close_day (omega (arith, h.first)) high in
    let month : first_month a + q ≡ month_from a.close_day (date_of day) = omega arith in
    closing_is a h q (omega (arith, bounds.1)) ∙ ap (λ i. day_in_month i a.close_day) month ∙ sym (next_on-number day a.close_day (omega (arith, h.first)) high h.low h.high)

pub within_cycle : (a : Anchor) → IsAnchor a → (day q : ℕ) → a.opened ≤ day → day ≤ last_calendar_day → cycle_of a day ≡ suc q → day ≤ closing a (suc q)
within_cycle a h day q low high e =
    omega (arith, cycle_closing a h day q low high e, first_day-from (λ d. eqb (day_of_month d) a.close_day) 31 day)

pub after_closing : (a : Anchor) → IsAnchor a → (day q : ℕ) → a.opened ≤ day → day ≤ last_calendar_day → cycle_of a day ≡ suc q → closing a q < day
unfolding closing
after_closing a h day zero low high e = omega (arith, h.first)
after_closing a h day (suc r) low high e = by (cases_lt (closing a (suc r)) day)
  where
    later : closing a (suc (suc r)) ≡ next_on a.close_day day
    later = cycle_closing a h day (suc r) low high e

    count : cycle_of a day + first_month a ≡ month_from a.close_day (date_of day) + 1
    count = cycle_is a h day low high

    by : (closing a (suc r) < day) ⊎ (day ≤ closing a (suc r)) → closing a (suc r) < day
    by (inl l) = l
    by (inr over) =
        let bounds = month_from-bounds day a.close_day (omega (arith, h.first)) high in
        let none = first_day-below (λ d. eqb (day_of_month d) a.close_day) 31 day (closing a (suc r)) over (omega (arith, closing_grows a (suc r), later)) in
        absurd (false≢true (sym none ∙ eq-eqb _ _ (closing-day a h r (omega (arith, count, e, bounds.1)))))

pub cycle_from_one : (a : Anchor) (day : ℕ) → 1 ≤ cycle_of a day
unfolding cycle_of
cycle_from_one a day = omega arith

-- a cycle's number, in one piece with the closings around the day
pub cycle_around : (a : Anchor) → IsAnchor a → (day k : ℕ) → a.opened ≤ day → day ≤ last_calendar_day → k ≡ cycle_of a day → (closing a (k - 1) < day) × (day ≤ closing a k)
cycle_around a h day k low high e =
    let one = cycle_from_one a day in
    let back : suc (k - 1) ≡ k = omega arith in
    (after_closing a h day (k - 1) low high (sym e ∙ sym back), subst (λ n. day ≤ closing a n) back (within_cycle a h day (k - 1) low high (sym e ∙ sym back)))
