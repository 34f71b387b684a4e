-- The table of the first days of months is the calendar.
use Rattle.std.proofs.Common.{Option, SomeIff, ◌≡◌, ℕ, zero, suc, ◌+◌, ◌-◌, ◌*◌, ◌/◌, ◌%◌, ◌<◌, ◌≤◌, List, [], ◌∷◌, Bool, true, ◌&&◌, eqb, nat_le, get_or, length, refl, sym, ap, ◌∙◌, arith}
use Rattle.std.proofs.lemmas.Bool.{and_parts, leb-true, eqb-true}
use Rattle.card_events.specs.Range.{first_calendar_day, last_calendar_day}
use Rattle.card_events.specs.Civil.{month_length, days_before_year, days_of_months, day_at, date_of, is_date, year_of_next_month}
use Rattle.card_events.specs.Months.{day_in_month, month_number}
use Rattle.card_events.specs.declared.month_table.TheConstants.{STARTS}
use Rattle.card_events.proofs.DateFacts.{date_of-day_at, day_at-range, in_calendar, from_calendar}
use Rattle.card_events.proofs.Months.{next_number, next_begins, length_bounds}
use Rattle.card_events.proofs.Cycles.{at_number}
use Rattle.card_events.proofs.Answered.{restated}

-- ---- the table, number by number
all_from : (ℕ → ℕ → Bool) → ℕ → List ℕ → Bool
all_from p i [] = true
all_from p i (x ∷ xs) = p i x && all_from p (i + 1) xs

all_from-at : (p : ℕ → ℕ → Bool) (i : ℕ) (xs : List ℕ) → all_from p i xs ≡ true → (k : ℕ) → k < length xs → p (i + k) (get_or xs k 0) ≡ true
unfolding all_from
all_from-at p i [] e k l = absurd (omega arith)
all_from-at p i (x ∷ xs) e zero l = let same : i + 0 ≡ i = omega arith in rw same (and_parts (p i x) (all_from p (i + 1) xs) e).0
all_from-at p i (x ∷ xs) e (suc k) l =
    let on : i + 1 + k ≡ i + suc k = omega arith in
    rw on at (all_from-at p (i + 1) xs (and_parts (p i x) (all_from p (i + 1) xs) e).1 k (omega arith))

-- it is the first day of its month, and lies less than a month off the average
in_place : ℕ → ℕ → Bool
in_place i x = eqb (first_calendar_day + x) (day_in_month (24_132 + i) 1) && (nat_le (4096 * x) (124_672 * (i + 1)) && nat_le (124_672 * i) (4096 * x + 124_672))

each : all_from in_place 0 STARTS ≡ true
unfolding day_in_month day_at days_before_year days_of_months all_from in_place
each = refl

pub record IsStart (i x : ℕ) : Type 0 where
  pub day : first_calendar_day + x ≡ day_in_month (24_132 + i) 1
  pub not_late : 4096 * x ≤ 124_672 * (i + 1)
  pub not_early : 124_672 * i ≤ 4096 * x + 124_672

start_in : (i x : ℕ) → in_place i x ≡ true → IsStart i x
unfolding in_place
start_in i x e =
    let a = and_parts _ _ e in
    let b = and_parts _ _ a.1 in
    record { day = eqb-true _ _ a.0; not_late = leb-true _ _ b.0; not_early = leb-true _ _ b.1 }

pub start_at : (i : ℕ) → i ≤ 1104 → IsStart i (get_or STARTS i 0)
start_at i l =
    let from : 0 + i ≡ i = omega arith in
    start_in i (get_or STARTS i 0) (rw from at (all_from-at in_place 0 STARTS each i (omega arith)))

-- ---- months
-- a month ends where the next begins
pub month-ends : (i : ℕ) → 24_132 ≤ i → day_in_month (i + 1) 1 ≡ day_in_month i 1 + month_length (i / 12) (i % 12 + 1)
unfolding day_in_month
month-ends i low =
    let next = next_number i in
    ap (λ y. day_at y ((i + 1) % 12 + 1) 1) (sym next.0) ∙ ap (λ m. day_at (year_of_next_month (i / 12) (i % 12 + 1)) m 1) (sym next.1) ∙ next_begins (i / 12) (i % 12 + 1) (omega arith) (omega arith) (omega arith)

-- the month of this index
month_parts : (k : ℕ) → ((24_132 + k) / 12 ≡ 2011 + k / 12) × ((24_132 + k) % 12 ≡ k % 12)
month_parts k = (omega arith, omega arith)

length_at : (k : ℕ) → month_length ((24_132 + k) / 12) ((24_132 + k) % 12 + 1) ≡ month_length (2011 + k / 12) (k % 12 + 1)
length_at k = let parts = month_parts k in ap (λ y. month_length y ((24_132 + k) % 12 + 1)) parts.0 ∙ ap (λ m. month_length (2011 + k / 12) (m + 1)) parts.1

pub next_start : (k : ℕ) → day_in_month (24_132 + (k + 1)) 1 ≡ day_in_month (24_132 + k) 1 + month_length (2011 + k / 12) (k % 12 + 1)
next_start k =
    let on : 24_132 + k + 1 ≡ 24_132 + (k + 1) = omega arith in
    omega (arith, ap (λ i. day_in_month i 1) on, month-ends (24_132 + k) (omega arith), length_at k)

-- a day of a month lies so many days after its first
pub day_from_first : (i d : ℕ) → 1 ≤ d → day_in_month i d ≡ day_in_month i 1 + (d - 1)
unfolding day_in_month day_at
day_from_first i d low = omega arith

pub day-range : (k d : ℕ) → k < 1104 → 1 ≤ d → d ≤ month_length (2011 + k / 12) (k % 12 + 1) → (first_calendar_day ≤ day_in_month (24_132 + k) d) × (day_in_month (24_132 + k) d ≤ last_calendar_day)
unfolding day_in_month
day-range k d l d1 d2 =
    day_at-range ((24_132 + k) / 12) ((24_132 + k) % 12 + 1) d (from_calendar ((24_132 + k) / 12) ((24_132 + k) % 12 + 1) d (record {
      low_year = omega arith;
      high_year = omega arith;
      low_month = omega arith;
      high_month = omega arith;
      low_day = d1;
      high_day = omega (arith, length_at k);
    }))

-- ---- the month that holds a day
-- the month before the average's has begun
pub has_begun : (k days : ℕ) → k ≤ 1104 → 124_672 * (k + 1) ≤ 4096 * days → day_in_month (24_132 + k) 1 ≤ first_calendar_day + days
has_begun k days l h = let start = start_at k l in omega (arith, start.day, start.not_late)

-- the month after the next one's hasn't
pub has_not_begun : (k days : ℕ) → k ≤ 1104 → 4096 * days + 124_672 < 124_672 * k → first_calendar_day + days < day_in_month (24_132 + k) 1
has_not_begun k days l h = let start = start_at k l in omega (arith, start.day, start.not_early)

pub at_first : (k : ℕ) → k ≡ 0 → day_in_month (24_132 + k) 1 ≡ first_calendar_day
at_first k e = rw e (unfold day_in_month day_at days_before_year days_of_months in refl)

pub at_end : (k : ℕ) → k ≡ 1104 → day_in_month (24_132 + k) 1 ≡ last_calendar_day + 1
at_end k e = rw e (unfold day_in_month day_at days_before_year days_of_months in refl)

pub record IsHeld (k d n : ℕ) : Type 0 where
  pub month : 24_132 + k ≡ month_number (date_of n)
  pub day : d ≡ (date_of n).day
  pub small : d ≤ 31

pub held : (k x n : ℕ) → k < 1104 → first_calendar_day + x ≡ day_in_month (24_132 + k) 1 → first_calendar_day + x ≤ n → n < day_in_month (24_132 + (k + 1)) 1 → IsHeld k (n - first_calendar_day - x + 1) n
held k x n l e first last =
    let i = 24_132 + k in
    let d = n - first_calendar_day - x + 1 in
    let here : n ≡ day_in_month i d = omega (arith, day_from_first i d (omega arith), e) in
    let size : d ≤ month_length (i / 12) (i % 12 + 1) = omega (arith, next_start k, length_at k, e) in
    let date : date_of (day_in_month i d) ≡ record { year = i / 12; month = i % 12 + 1; day = d } = unfold day_in_month in date_of-day_at (i / 12) (i % 12 + 1) d (omega arith) (omega arith) (omega arith) (omega arith) (omega arith) size in
    let is = ap date_of here ∙ date in
    record { month = omega (arith, ap (λ c. month_number c) is); day = sym (ap (λ c. c.day) is); small = omega (arith, length_bounds (i / 12) (i % 12 + 1), size) }

-- ---- the answers of a day of a month
pub from_month : (r : Option ℕ) (y m d k : ℕ) → 2011 ≤ y → y ≤ 2102 → 1 ≤ m → m ≤ 12 → 1 ≤ d → k ≡ (y - 2011) * 12 + (m - 1) → SomeIff r (d ≤ month_length (2011 + k / 12) (k % 12 + 1)) (day_in_month (24_132 + k) d) → SomeIff r (is_date y m d ≡ true) (day_at y m d)
from_month r y m d k y1 y2 m1 m2 d1 e answer =
    let year : 2011 + k / 12 ≡ y = omega arith in
    let month : k % 12 + 1 ≡ m = omega arith in
    let number : 24_132 + k ≡ 12 * y + (m - 1) = omega arith in
    let length : month_length (2011 + k / 12) (k % 12 + 1) ≡ month_length y m = ap (λ u. month_length u (k % 12 + 1)) year ∙ ap (λ u. month_length y u) month in
    restated r (d ≤ month_length (2011 + k / 12) (k % 12 + 1)) (is_date y m d ≡ true) (day_in_month (24_132 + k) d) (day_at y m d)
    (λ p. from_calendar y m d (record { low_year = y1; high_year = y2; low_month = m1; high_month = m2; low_day = d1; high_day = omega (arith, length) }))
    (λ q. omega (arith, length, (in_calendar y m d q).high_day))
    (λ p. ap (λ i. day_in_month i d) number ∙ at_number y m d m1 m2)
    answer

pub from_number : (r : Option ℕ) (i d : ℕ) → 24_132 ≤ i → i ≤ 25_235 → 1 ≤ d → d ≤ 28 → SomeIff r (d ≤ month_length (2011 + (i - 24_132) / 12) ((i - 24_132) % 12 + 1)) (day_in_month (24_132 + (i - 24_132)) d) → SomeIff r ((24_132 ≤ i) × (i ≤ 25_235)) (day_in_month i d)
from_number r i d low high d1 d2 answer =
    let back : 24_132 + (i - 24_132) ≡ i = omega arith in
    restated r (d ≤ month_length (2011 + (i - 24_132) / 12) ((i - 24_132) % 12 + 1)) ((24_132 ≤ i) × (i ≤ 25_235)) (day_in_month (24_132 + (i - 24_132)) d) (day_in_month i d)
    (λ p. (low, high))
    (λ q. omega (arith, length_bounds (2011 + (i - 24_132) / 12) ((i - 24_132) % 12 + 1)))
    (λ p. ap (λ u. day_in_month u d) back)
    answer
