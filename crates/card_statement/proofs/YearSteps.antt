-- The steps of a sum over the cycles of a year.
use Rattle.std.proofs.Common.{◌≡◌, ℕ, zero, suc, ◌+◌, ◌-◌, ◌*◌, ◌<◌, ◌≤◌, ◌^◌, ◌⊎◌, inl, inr, Bool, true, false, ◌&&◌, cond, List, [], length, take, get_or, refl, ap, ◌∙◌, subst, arith, eqb, is_le, nat_cmp, eq-eqb, le-leb, ne_eqb}
use Rattle.std.proofs.lemmas.Bool.{cases_lt, lt-leb}
use Rattle.std.proofs.lemmas.Bool.Decides.{nat_tests}
use Rattle.std.specs.Prelude.{nat_le}
use Rattle.std.proofs.lemmas.List.Sums.{sum_by_more}
use Rattle.card_bounds.proofs.Dated.{and-false}
use Rattle.card_events.specs.Civil.{date_of, day_at, days_of_months, month_length}
use Rattle.card_events.proofs.DateFacts.{after_first, before_year}
use Rattle.card_events.proofs.Dates.{HasDate, date_of-has, month_more}
use Rattle.card_model.specs.Cycles.{Cycle}
use Rattle.card_model.specs.Sheets.{year_sum}
use Rattle.card_statement.specs.Years.{IsYearOf}

-- what a cycle adds
abbrev pub part : (Cycle → ℕ) → ℕ → Cycle → ℕ
part f closing d = cond (eqb (date_of d.closing).year (date_of closing).year) (f d) 0

pub more : (f : Cycle → ℕ) (closing : ℕ) (cs : List Cycle) (i : ℕ) (c : Cycle) → i < length cs
    → year_sum f closing (take (i + 1) cs) ≡ year_sum f closing (take i cs) + part f closing (get_or cs i c)
unfolding year_sum
more f closing cs i c l = sum_by_more (part f closing) cs i c l

pub none : (f : Cycle → ℕ) (closing : ℕ) → 0 ≡ year_sum f closing []
unfolding year_sum
none f closing = refl

pub bounded : (f : Cycle → ℕ) (closing n : ℕ) (d : Cycle) → f d ≤ n → part f closing d ≤ n
bounded f closing n d l = by (eqb (date_of d.closing).year (date_of closing).year)
  where
    by : (t : Bool) → cond t (f d) 0 ≤ n
    by true = l
    by false = omega arith

pub grows : (s r p i : ℕ) → s ≤ i * 10 ^ 17 → r ≡ p → p ≤ 10 ^ 17 → s + r ≤ (i + 1) * 10 ^ 17
grows s r p i a b c = omega arith

-- ---- the days of a year
-- later months end later
months-end : (y m n k : ℕ) → n ≡ k + m → days_of_months y m ≤ days_of_months y n
months-end y m n zero e = let same : m ≡ n = omega (arith, e) in subst (λ x. days_of_months y m ≤ days_of_months y x) same (omega arith)
months-end y m n (suc k) e =
    let before : n - 1 ≡ k + m = omega (arith, e) in
    omega (arith, months-end y m (n - 1) k before, month_more y n (omega (arith, e)))

-- no date of a year is after its last day
before_end : (y m d : ℕ) → 1 ≤ m → m ≤ 12 → 1 ≤ d → d ≤ month_length y m → day_at y m d ≤ day_at y 12 31
unfolding day_at
before_end y m d m1 m2 d1 d2 =
    let ends : days_of_months y m ≤ days_of_months y 12 = months-end y m 12 (12 - m) (omega (arith, m2)) in
    let whole : days_of_months y 12 ≡ days_of_months y 11 + 31 = month_more y 12 (omega arith) in
    omega (arith, ends, whole, month_more y m m1, m1, d1, d2)

-- a day lies in a year exactly where that is the year of its date
abbrev pub InItsYear : ℕ → ℕ → Type 0
InItsYear m y = (nat_le (day_at y 1 1) m && nat_le m (day_at y 12 31)) ≡ eqb (date_of m).year y

before_it : (m y : ℕ) → HasDate m (date_of m) → (date_of m).year < y → InItsYear m y
before_it m y h l =
    let early = before_year (date_of m).year (date_of m).month (date_of m).day y h.year_low (omega (arith, h.year_high)) h.month_low h.month_high h.day_low h.day_high l in
    let out : nat_le (day_at y 1 1) m ≡ false = lt-leb _ _ (omega (arith, h.number, early)) in
    let differ : eqb (date_of m).year y ≡ false = ne_eqb _ _ (λ e. omega (arith, e, l)) in
    rw (out, differ) refl

after_it : (m y : ℕ) → HasDate m (date_of m) → 1970 ≤ y → y ≤ 2400 → y < (date_of m).year → InItsYear m y
after_it m y h low high l =
    let late = after_first (date_of m).year (date_of m).month (date_of m).day (y + 1) (omega (arith, low)) (omega (arith, l)) h.day_low in
    let over = before_year y 12 31 (y + 1) low (omega (arith, high)) (omega arith) (omega arith) (omega arith) (omega arith) (omega arith) in
    let out : nat_le m (day_at y 12 31) ≡ false = lt-leb _ _ (omega (arith, h.number, late, over)) in
    let differ : eqb (date_of m).year y ≡ false = ne_eqb _ _ (λ e. omega (arith, e, l)) in
    rw (out, differ) (and-false (nat_le (day_at y 1 1) m))

amid_it : (m y : ℕ) → HasDate m (date_of m) → 1970 ≤ y → (date_of m).year ≡ y → InItsYear m y
amid_it m y h low same =
    let first : day_at y 1 1 ≤ m = omega (arith, h.number, after_first (date_of m).year (date_of m).month (date_of m).day y low (omega (arith, same)) h.day_low) in
    let ends = before_end (date_of m).year (date_of m).month (date_of m).day h.month_low h.month_high h.day_low h.day_high in
    let last : m ≤ day_at y 12 31 = omega (arith, h.number, subst (λ z. day_at (date_of m).year (date_of m).month (date_of m).day ≤ day_at z 12 31) same ends) in
    rw (le-leb _ _ first, le-leb _ _ last, eq-eqb _ _ same) refl

pub in_its_year : (m y : ℕ) → m < 133_000 → 1970 ≤ y → y ≤ 2400 → InItsYear m y
in_its_year m y a low high = by (cases_lt (date_of m).year y) (cases_lt y (date_of m).year)
  where
    by : ((date_of m).year < y) ⊎ (y ≤ (date_of m).year) → (y < (date_of m).year) ⊎ ((date_of m).year ≤ y) → InItsYear m y
    by (inl l) other = before_it m y (date_of-has m a) l
    by (inr l) (inl more) = after_it m y (date_of-has m a) low high more
    by (inr l) (inr less) = amid_it m y (date_of-has m a) low (omega (arith, l, less))

-- so it is told by two comparisons of days
le-is : (p q : ℕ) → is_le (nat_cmp p q) ≡ nat_le p q
le-is p q = by (cases_lt q p)
  where
    by : (q < p) ⊎ (p ≤ q) → is_le (nat_cmp p q) ≡ nat_le p q
    by (inl l) = grind (arith, nat_tests, l)
    by (inr l) = grind (arith, nat_tests, l)

pub told_by_both : (m n first last : ℕ) → m < 133_000 → n < 133_000 → IsYearOf n first last → (is_le (nat_cmp first m) && is_le (nat_cmp m last)) ≡ eqb (date_of m).year (date_of n).year
told_by_both m n first last a b is =
    let h = date_of-has n b in
    let begins : is_le (nat_cmp first m) ≡ nat_le (day_at (date_of n).year 1 1) m = le-is first m ∙ ap (λ d. nat_le d m) is.first in
    let ends : is_le (nat_cmp m last) ≡ nat_le m (day_at (date_of n).year 12 31) = le-is m last ∙ ap (nat_le m) is.last in
    ap (λ (t : Bool). t && is_le (nat_cmp m last)) begins ∙ (ap (λ (t : Bool). nat_le (day_at (date_of n).year 1 1) m && t) ends ∙ in_its_year m (date_of n).year a h.year_low h.year_high)
