-- Sums over the days of runs.
use Rattle.std.proofs.Common.{◌≡◌, ℕ, zero, suc, ◌+◌, ◌*◌, ◌<◌, List, length, take, get_or, refl, ap, ◌∙◌, arith}
use Rattle.std.specs.List.{sum_by}
use Rattle.std.proofs.lemmas.List.Sums.{sum_by-cons, sum_by-append}
use Rattle.card_events.specs.Money.{daily}
use Rattle.card_closing.specs.Rows.{DayRow, equal_days}
use Rattle.card_closing.specs.Runs.{run_days, spread}
use Rattle.card_closing.specs.declared.runs.Run.{Run}
use Rattle.card_closing.proofs.Spreads.{spread_more}

-- equal days of one rate
pub rate_out : (f : DayRow → ℕ) (a n balance rate : ℕ) → sum_by (λ (r : DayRow). f r * daily r.rate) (equal_days a n balance rate) ≡ sum_by f (equal_days a n balance rate) * daily rate
rate_out f a zero balance rate = omega arith
rate_out f a (suc n) balance rate =
    let here : DayRow = record { day = a; balance = balance; rate = rate } in
    let rest = rate_out f (a + 1) n balance rate in
    rw (sum_by-cons (λ (r : DayRow). f r * daily r.rate) here (equal_days (a + 1) n balance rate), sum_by-cons f here (equal_days (a + 1) n balance rate), rest) (times (f here) (sum_by f (equal_days (a + 1) n balance rate)) (daily rate))
  where
    times : (x y z : ℕ) → x * z + y * z ≡ (x + y) * z
    times x y z = omega arith

-- none bear interest
pub none_bear : (a n balance rate : ℕ) → sum_by (λ (r : DayRow). 0) (equal_days a n balance rate) ≡ 0
none_bear a zero balance rate = refl
none_bear a (suc n) balance rate =
    omega (arith, sum_by-cons (λ (r : DayRow). 0) (record { day = a; balance = balance; rate = rate }) (equal_days (a + 1) n balance rate), none_bear (a + 1) n balance rate)

-- all bear interest
pub all_bear : (a n balance rate : ℕ) → sum_by (λ (r : DayRow). r.balance) (equal_days a n balance rate) ≡ n * balance
all_bear a zero balance rate = omega arith
all_bear a (suc n) balance rate =
    let e : suc n * balance ≡ balance + n * balance = omega arith in
    rw e (omega (arith, sum_by-cons (λ (r : DayRow). r.balance) (record { day = a; balance = balance; rate = rate }) (equal_days (a + 1) n balance rate), all_bear (a + 1) n balance rate))

-- one run more
pub sum_more : (f : DayRow → ℕ) (a i : ℕ) (xs : List Run) (d : Run) → i < length xs
    → sum_by f (spread a (take (i + 1) xs)) ≡ sum_by f (spread a (take i xs)) + sum_by f (equal_days (a + run_days (take i xs)) (get_or xs i d).days (get_or xs i d).balance (get_or xs i d).rate)
sum_more f a i xs d l = ap (sum_by f) (spread_more a i xs d l) ∙ sum_by-append f (spread a (take i xs)) (equal_days (a + run_days (take i xs)) (get_or xs i d).days (get_or xs i d).balance (get_or xs i d).rate)
