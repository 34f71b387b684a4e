-- The days of the demonstration are in the calendar.
use Rattle.std.proofs.Common.{◌≡◌, ℕ, ◌+◌, ◌≤◌, ◌/◌, ◌%◌, true, refl, arith}
use Rattle.std.specs.Prelude.{nat_le}
use Rattle.std.proofs.lemmas.Bool.{and_from, le-leb}
use Rattle.card_events.specs.Civil.{day_at, days_before_year, days_of_months, is_date, month_length}
use Rattle.card_events.specs.Range.{first_calendar_day, last_request_day}
use Rattle.card_events.specs.Dated.{is_request_day}
use Rattle.card_events.proofs.DateFacts.{before_year}
use Rattle.card_events.proofs.Months.{length_bounds}
use Rattle.card_demo.specs.Requests.{twentieth}

pub fees_day : is_request_day (day_at 2011 1 2) ≡ true
unfolding day_at days_before_year days_of_months
fees_day = refl

pub first_opening : is_request_day (day_at 2024 1 5) ≡ true
unfolding day_at days_before_year days_of_months
first_opening = refl

pub amended_day : is_request_day (day_at 2024 1 10) ≡ true
unfolding day_at days_before_year days_of_months
amended_day = refl

pub is_there : (n : ℕ) → n ≤ 60 → is_date (2024 + n / 12) (n % 12 + 1) 20 ≡ true
is_there n h =
    let y = 2024 + n / 12 in
    let m = n % 12 + 1 in
    let long = (length_bounds y m).1 in
    and_from (nat_le 2011 y) _ (le-leb 2011 y (omega arith))
    (and_from (nat_le y 2102) _ (le-leb y 2102 (omega (arith, h)))
    (and_from (nat_le 1 m) _ (le-leb 1 m (omega arith)) (and_from (nat_le m 12) _ (le-leb m 12 (omega arith)) (and_from (nat_le 1 20) _ refl (le-leb 20 (month_length y m) (omega (arith, long)))))))

pub is_late : (n : ℕ) → n ≤ 60 → first_calendar_day + 9 ≤ twentieth n
unfolding twentieth day_at days_before_year
is_late n h = omega arith

new_year : day_at 2030 1 1 ≡ 21915
unfolding day_at days_before_year days_of_months
new_year = refl

pub is_early : (n : ℕ) → n ≤ 60 → twentieth n ≤ last_request_day
unfolding twentieth
is_early n h =
    let y = 2024 + n / 12 in
    let m = n % 12 + 1 in
    let long = (length_bounds y m).1 in
    omega (arith, before_year y m 20 2030 (omega arith) (omega (arith, h)) (omega arith) (omega arith) (omega arith) (omega (arith, long)) (omega (arith, h)), new_year)
