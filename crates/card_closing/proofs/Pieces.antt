-- Sums over the days of a run, and days between two repayments.
use Rattle.std.proofs.Common.{◌≡◌, ℕ, zero, suc, ◌+◌, ◌-◌, ◌*◌, ◌<◌, ◌≤◌, refl, ap, ◌∙◌, arith}
use Rattle.std.specs.List.{sum_by}
use Rattle.std.proofs.lemmas.List.Sums.{sum_by-cons, sum_by-append}
use Rattle.card_closing.specs.Rows.{DayRow, equal_days, row_of}
use Rattle.card_closing.proofs.Spreads.{equal_days-append}

-- days that bring the same
pub equal_sum : (f : DayRow → ℕ) (v a n balance rate : ℕ) → ((d : ℕ) → a ≤ d → d < a + n → f (row_of balance rate d) ≡ v) → sum_by f (equal_days a n balance rate) ≡ n * v
equal_sum f v a zero balance rate same = omega arith
equal_sum f v a (suc n) balance rate same =
    let e : suc n * v ≡ v + n * v = omega arith in
    let rest = equal_sum f v (a + 1) n balance rate (λ d low high. same d (omega (arith, low)) (omega (arith, high))) in
    let here = same a (omega arith) (omega arith) in
    rw e (omega (arith, sum_by-cons f (row_of balance rate a) (equal_days (a + 1) n balance rate), rest, here))

-- some days more
pub piece_more : (f : DayRow → ℕ) (a m n balance rate : ℕ) → a ≤ m → m ≤ n
    → sum_by f (equal_days a (n - a) balance rate) ≡ sum_by f (equal_days a (m - a) balance rate) + sum_by f (equal_days m (n - m) balance rate)
piece_more f a m n balance rate low high =
    let count : n - a ≡ m - a + (n - m) = omega (arith, low, high) in
    let from : a + (m - a) ≡ m = omega (arith, low) in
    let parts = equal_days-append a (m - a) (n - m) balance rate in
    rw count (ap (sum_by f) parts ∙ sum_by-append f (equal_days a (m - a) balance rate) (equal_days (a + (m - a)) (n - m) balance rate) ∙ rw from refl)

-- at most as much each day
times-le : (n x m : ℕ) → x ≤ m → n * x ≤ n * m
times-le zero x m l = omega arith
times-le (suc n) x m l =
    let e : suc n * x ≡ x + n * x = omega arith in
    let f : suc n * m ≡ m + n * m = omega arith in
    rw (e, f) (omega (arith, l, times-le n x m l))

pub bound_more : (sum n k x m : ℕ) → sum ≤ n * m → x ≤ m → sum + k * x ≤ (n + k) * m
bound_more sum n k x m low l =
    let e : (n + k) * m ≡ n * m + k * m = omega arith in
    rw e (omega (arith, low, times-le k x m l))
