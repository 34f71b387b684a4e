-- The cycles that closed in an earlier calendar year than the last closing: a cycle has 28 days at least, and 14 of them more than a year.
use Rattle.std.proofs.Common.{◌≡◌, ℕ, zero, suc, ◌+◌, ◌-◌, ◌*◌, ◌/◌, ◌%◌, ◌<◌, ◌≤◌, ◌⊎◌, inl, inr, false, cond, eqb, ne_eqb, List, [], ◌∷◌, length, take, drop, get_or, Some, refl, sym, ap, subst, arith}
use Rattle.std.specs.Prelude.{slice_get}
use Rattle.std.specs.List.{All}
use Rattle.std.proofs.lemmas.Bool.{cases_lt}
use Rattle.std.proofs.lemmas.List.Elements.{All-head, All-tail}
use Rattle.std.proofs.lemmas.List.Sums.{sum_by-cons}
use Rattle.card_events.specs.Billing.{closing}
use Rattle.card_events.specs.Civil.{date_of, day_at, days_of_months, month_length, next_month}
use Rattle.card_events.specs.History.{anchor_of}
use Rattle.card_events.specs.Months.{day_in_month, first_month}
use Rattle.card_events.specs.Range.{last_request_day}
use Rattle.card_events.specs.declared.anchor.Anchor.{Anchor}
use Rattle.card_events.proofs.Cycles.{IsAnchor, closing_is, closing_late, first_month-bounds}
use Rattle.card_events.proofs.Dates.{date_of-has, month_more}
use Rattle.card_events.proofs.Months.{length_bounds, month_civil, next_number, over}
use Rattle.card_model.proofs.Calendar.{cycles_are_of_the_calendar, is-anchor}
use Rattle.card_model.specs.CycleDays.{HasItsDays}
use Rattle.card_model.specs.Cycles.{Cycle}
use Rattle.card_model.specs.Folds.{cycle_at}
use Rattle.card_model.specs.Sheets.{year_sum}
use Rattle.card_daily.specs.Given.{Given, IsDayOf, IsSound, book_on}
use Rattle.card_book.proofs.Closings.{closed-up-to}

-- ---- days of closings
-- a month has 28 days at least
month-long : (i d : ℕ) → 23_640 ≤ i → i ≤ 26_000 → 1 ≤ d → d ≤ 28 → day_in_month i d + 28 ≤ day_in_month (i + 1) d
unfolding day_in_month
month-long i d low high d1 d2 =
    let y = i / 12 in
    let m = i % 12 + 1 in
    let n = month_length y m in
    let next = next_number i in
    let long = length_bounds y m in
    let there = over y m d n d (month_civil i d low (omega (arith, high)) d1 d2) d1 (omega arith) in
    let year = ap (λ u. day_at u (next_month m) d) next.0 in
    let month = ap (λ u. day_at ((i + 1) / 12) u d) next.1 in
    omega (arith, long, there, year, month)

-- so has a cycle
closing-long : (a : Anchor) → IsAnchor a → (k : ℕ) → first_month a + suc k ≤ 26_000 → closing a (suc k) + 28 ≤ closing a (suc (suc k))
closing-long a h k small =
    let first = first_month-bounds a h in
    let this = closing_is a h k (omega (arith, small)) in
    let next = closing_is a h (suc k) small in
    let on : first_month a + k + 1 ≡ first_month a + suc k = omega arith in
    let long = month-long (first_month a + k) a.close_day (omega (arith, first)) (omega (arith, small)) h.low h.high in
    let there = ap (λ i. day_in_month i a.close_day) on in
    omega (arith, this, next, long, there)

-- and several together
closings-long : (a : Anchor) → IsAnchor a → (k n : ℕ) → first_month a + (n + k) ≤ 26_000 → closing a (suc k) + 28 * n ≤ closing a (suc (n + k))
closings-long a h k zero small = let same : suc (0 + k) ≡ suc k = omega arith in omega (arith, ap (closing a) same)
closings-long a h k (suc n) small =
    let before = closings-long a h k n (omega (arith, small)) in
    let one = closing-long a h (n + k) (omega (arith, small)) in
    let on : suc (suc (n + k)) ≡ suc (suc n + k) = omega arith in
    omega (arith, before, one, ap (closing a) on)

-- within the calendar
few-closings : (a : Anchor) → IsAnchor a → (k : ℕ) → closing a (suc k) ≤ last_request_day → first_month a + k ≤ 26_000
few-closings a h k l = by (cases_lt (first_month a + k) 25_236)
  where
    by : (first_month a + k < 25_236) ⊎ (25_236 ≤ first_month a + k) → first_month a + k ≤ 26_000
    by (inl few) = omega (arith, few)
    by (inr many) = let late = closing_late a h k many in absurd (omega (arith, late, l))

-- ---- years
months-short : (y m : ℕ) → days_of_months y m ≤ 31 * m
months-short y zero = unfold days_of_months in omega arith
months-short y (suc m) =
    let more = month_more y (suc m) (omega arith) in
    let same : suc m - 1 ≡ m = omega arith in
    let before = subst (λ n. days_of_months y n ≤ 31 * m) (sym same) (months-short y m) in
    let long = length_bounds y (suc m) in
    omega (arith, more, before, long)

-- days that lie 392 days apart are of different years
in-one-year : (y m d n e : ℕ) → 1 ≤ m → n ≤ 12 → e ≤ month_length y n → day_at y n e < day_at y m d + 392
unfolding day_at
in-one-year y m d n e m1 n2 e2 =
    let late = months-short y (n - 1) in
    let long = length_bounds y n in
    omega (arith, late, long, e2, n2)

other-year : (m n : ℕ) → m + 392 ≤ n → n < 133_000 → eqb (date_of m).year (date_of n).year ≡ false
other-year m n l small = ne_eqb _ _ (λ e. omega (arith, apart e))
  where
    apart : (date_of m).year ≡ (date_of n).year → 1 ≤ 0
    apart e =
        let p = date_of-has m (omega (arith, l, small)) in
        let q = date_of-has n small in
        let y = (date_of n).year in
        let near = in-one-year y (date_of m).month (date_of m).day (date_of n).month (date_of n).day p.month_low q.month_high q.day_high in
        let first = p.number in
        let last = q.number in
        let same = ap (λ u. day_at u (date_of m).month (date_of m).day) e in
        omega (arith, near, first, last, same, l)

-- ---- cycles
place : (k : ℕ) (cs : List Cycle) (d : Cycle) → k < length cs → slice_get cs k ≡ Some (get_or cs k d)
place k [] d l = absurd (omega (arith, l))
place zero (c ∷ cs) d l = refl
place (suc k) (c ∷ cs) d l = place k cs d (omega (arith, l))

taken : (n k : ℕ) (cs : List Cycle) (d : Cycle) → k < length (take n cs) → (k < n) × (k < length cs) × (get_or (take n cs) k d ≡ get_or cs k d)
taken zero k cs d l = absurd (omega (arith, l))
taken (suc n) k [] d l = absurd (omega (arith, l))
taken (suc n) zero (c ∷ cs) d l = (omega arith, omega arith, refl)
taken (suc n) (suc k) (c ∷ cs) d l = let rest = taken n k cs d (omega (arith, l)) in let a = rest.0 in let b = rest.1 in (omega (arith, a), omega (arith, b), rest.2)

-- where the cycles have their days, all but the last 14 closed in an earlier year than a day on which or after which the last one closed
earlier-years : (a : Anchor) → IsAnchor a → (day : ℕ) (cs : List Cycle)
    → ((k : ℕ) (c : Cycle) → cycle_at k cs ≡ Some c → HasItsDays a k c) → closing a (length cs) ≤ day → day ≤ last_request_day
    → All (λ c. eqb (date_of c.closing).year (date_of day).year ≡ false) (take (length cs - 14) cs)
earlier-years a h day cs days last l k d within =
    let at = taken (length cs - 14) k cs d within in
    let early = at.0 in
    let inside = at.1 in
    let c = get_or cs k d in
    let own = (days (suc k) c (place k cs d inside)).closing in
    let all : suc (length cs - 1 - k + k) ≡ length cs = omega (arith, inside) in
    let ends = ap (closing a) all in
    let few = few-closings a h (length cs - 1 - k + k) (omega (arith, ends, last, l)) in
    let apart = closings-long a h k (length cs - 1 - k) few in
    let far : c.closing + 392 ≤ day = omega (arith, own, apart, ends, last, early) in
    subst (λ (x : Cycle). eqb (date_of x.closing).year (date_of day).year ≡ false) (sym at.2) (other-year c.closing day far (omega (arith, l)))

-- so it is with those that are closed up to a day
pub earlier-on : (g : Given) (day n : ℕ) (cs : List Cycle) → IsSound g → IsDayOf g day → cs ≡ (book_on g day).cycles → n ≡ day
    → All (λ c. eqb (date_of c.closing).year (date_of n).year ≡ false) (take (length cs - 14) cs)
earlier-on g day n cs s d e same =
    let a = anchor_of g.history in
    let last = d.last in
    let days = λ (k : ℕ) (c : Cycle) (at : cycle_at k (book_on g day).cycles ≡ Some c). cycles_are_of_the_calendar.days g.history g.issued g.shared day k c s.opening (omega (arith, last)) at in
    rw (e, same) (earlier-years a (is-anchor a s.opening) day (book_on g day).cycles days (closed-up-to g day s d.opened d.last).last d.last)

-- the sum of a year is that of the cycles behind those
pub later-sum : (f : Cycle → ℕ) (day n : ℕ) (cs : List Cycle) → All (λ c. eqb (date_of c.closing).year (date_of day).year ≡ false) (take n cs)
    → year_sum f day (drop n cs) ≡ year_sum f day cs
unfolding year_sum
later-sum f day zero cs h = refl
later-sum f day (suc n) [] h = refl
later-sum f day (suc n) (c ∷ cs) h =
    let out = All-head (λ (x : Cycle). eqb (date_of x.closing).year (date_of day).year ≡ false) c (take n cs) h in
    let rest = later-sum f day n cs (All-tail (λ (x : Cycle). eqb (date_of x.closing).year (date_of day).year ≡ false) c (take n cs) h) in
    let one : year_sum f day (c ∷ cs) ≡ cond (eqb (date_of c.closing).year (date_of day).year) (f c) 0 + year_sum f day cs =
    sum_by-cons (λ (x : Cycle). cond (eqb (date_of x.closing).year (date_of day).year) (f x) 0) c cs in
    let none : cond (eqb (date_of c.closing).year (date_of day).year) (f c) 0 ≡ 0 = rw out refl in
    omega (arith, rest, one, none)
