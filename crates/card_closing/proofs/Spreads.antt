-- Runs and the days that they stand for.
use Rattle.std.proofs.Common.{◌≡◌, ℕ, zero, suc, ◌+◌, ◌<◌, ◌≤◌, false, ◌&&◌, eqb, List, [], ◌∷◌, ◌++◌, length, take, get_or, set, map, refl, sym, ap, ◌∙◌, arith}
use Rattle.std.specs.List.{range_with_len}
use Rattle.std.proofs.lemmas.List.{append-nil, append_assoc, take_more, length-append, map-append}
use Rattle.std.proofs.lemmas.List.Elements.{All-append, All-cons, All-nil}
use Rattle.std.proofs.lemmas.List.FromFn.{length-map-range_with_len}
use Rattle.std.proofs.lemmas.List.Sums.{sum_by-cons, sum_by_push}
use Rattle.card_model.specs.Limits.{balance_limit}
use Rattle.card_closing.specs.GraceLaws.{AreDaysFrom}
use Rattle.card_closing.specs.Rows.{DayRow, equal_days, row_of}
use Rattle.card_closing.specs.Runs.{AreRuns, ends_with, run_days, spread}
use Rattle.card_closing.specs.declared.runs.Run.{Run}

pub range-append : (a n m : ℕ) → range_with_len a (n + m) ≡ range_with_len a n ++ range_with_len (a + n) m
range-append a zero m = let e : 0 + m ≡ m = omega arith in let f : a + 0 ≡ a = omega arith in rw (e, f) refl
range-append a (suc n) m =
    let e : suc n + m ≡ suc (n + m) = omega arith in
    let f : a + suc n ≡ a + 1 + n = omega arith in
    rw (e, f) (ap (λ l. a ∷ l) (range-append (a + 1) n m))

-- equal days in two parts
pub equal_days-append : (a n m balance rate : ℕ) → equal_days a (n + m) balance rate ≡ equal_days a n balance rate ++ equal_days (a + n) m balance rate
equal_days-append a n m balance rate = ap (map (row_of balance rate)) (range-append a n m) ∙ map-append (row_of balance rate) (range_with_len a n) (range_with_len (a + n) m)

pub length-equal_days : (a n balance rate : ℕ) → length (equal_days a n balance rate) ≡ n
length-equal_days a n balance rate = length-map-range_with_len (row_of balance rate) a n

-- the days of a run
pub days_of : ℕ → Run → List DayRow
days_of from r = equal_days from r.days r.balance r.rate

pub spread-append : (a : ℕ) (xs ys : List Run) → spread a (xs ++ ys) ≡ spread a xs ++ spread (a + run_days xs) ys
unfolding spread
spread-append a [] ys = let e : a + 0 ≡ a = omega arith in rw e refl
spread-append a (x ∷ xs) ys =
    let days = sum_by-cons (λ (r : Run). r.days) x xs in
    let e : a + (x.days + run_days xs) ≡ a + x.days + run_days xs = omega arith in
    rw (days, e, spread-append (a + x.days) xs ys) (sym (append_assoc (equal_days a x.days x.balance x.rate) (spread (a + x.days) xs) (spread (a + x.days + run_days xs) ys)))

pub spread_push : (a : ℕ) (xs : List Run) (r : Run) → spread a (xs ++ r ∷ []) ≡ spread a xs ++ equal_days (a + run_days xs) r.days r.balance r.rate
unfolding spread
spread_push a xs r = spread-append a xs (r ∷ []) ∙ ap (λ l. spread a xs ++ l) (append-nil _)

-- one run more
pub spread_more : (a i : ℕ) (xs : List Run) (d : Run) → i < length xs
    → spread a (take (i + 1) xs) ≡ spread a (take i xs) ++ equal_days (a + run_days (take i xs)) (get_or xs i d).days (get_or xs i d).balance (get_or xs i d).rate
spread_more a i xs d l = ap (spread a) (take_more xs i d l) ∙ spread_push a (take i xs) (get_or xs i d)

pub length-spread : (a : ℕ) (xs : List Run) → length (spread a xs) ≡ run_days xs
unfolding spread
length-spread a [] = refl
length-spread a (x ∷ xs) =
    omega (arith, length-append (equal_days a x.days x.balance x.rate) (spread (a + x.days) xs), length-equal_days a x.days x.balance x.rate, length-spread (a + x.days) xs, sum_by-cons (λ (r : Run). r.days) x xs)

-- ---- rows that grow
-- a run of more days
abbrev pub longer : ℕ → Run → Run
longer n r = record { days = r.days + n; balance = r.balance; rate = r.rate }

-- the last run is lengthened
pub spread-longer : (a i n : ℕ) (xs : List Run) (d : Run) → i + 1 ≡ length xs
    → spread a (set xs i (longer n (get_or xs i d))) ≡ spread a xs ++ equal_days (a + run_days xs) n (get_or xs i d).balance (get_or xs i d).rate
unfolding spread
spread-longer a i n [] d l = absurd (omega arith)
spread-longer a zero n (x ∷ []) d l =
    let days : a + (0 + x.days) ≡ a + x.days = omega arith in
    append-nil _ ∙ equal_days-append a x.days n x.balance x.rate ∙ rw days (ap (λ l. l ++ equal_days (a + x.days) n x.balance x.rate) (sym (append-nil (equal_days a x.days x.balance x.rate))))
spread-longer a (suc i) n (x ∷ []) d l = absurd (omega arith)
spread-longer a zero n (x ∷ y ∷ ys) d l = absurd (omega arith)
spread-longer a (suc i) n (x ∷ y ∷ ys) d l =
    let days = sum_by-cons (λ (r : Run). r.days) x (y ∷ ys) in
    let e : a + (x.days + run_days (y ∷ ys)) ≡ a + x.days + run_days (y ∷ ys) = omega arith in
    rw (days, e, spread-longer (a + x.days) i n (y ∷ ys) d (omega arith))
    (sym (append_assoc (equal_days a x.days x.balance x.rate) (spread (a + x.days) (y ∷ ys)) _))

-- ---- the last run
pub ends_with-none : (balance rate : ℕ) (xs : List Run) → length xs ≡ 0 → ends_with balance rate xs ≡ false
unfolding ends_with
ends_with-none balance rate [] e = refl
ends_with-none balance rate (x ∷ xs) e = absurd (omega arith)

pub ends_with-last : (balance rate i : ℕ) (xs : List Run) (d : Run) → i + 1 ≡ length xs → ends_with balance rate xs ≡ (eqb (get_or xs i d).balance balance && eqb (get_or xs i d).rate rate)
unfolding ends_with
ends_with-last balance rate i [] d l = absurd (omega arith)
ends_with-last balance rate zero (x ∷ []) d l = refl
ends_with-last balance rate (suc i) (x ∷ []) d l = absurd (omega arith)
ends_with-last balance rate zero (x ∷ y ∷ ys) d l = absurd (omega arith)
ends_with-last balance rate (suc i) (x ∷ y ∷ ys) d l = ends_with-last balance rate i (y ∷ ys) d (omega arith)

-- a run at the end
pub runs_push : (xs : List Run) (r : Run) → AreRuns xs → r.balance ≤ balance_limit → run_days xs + r.days ≤ 31 → AreRuns (xs ++ r ∷ [])
runs_push xs r are low few = record {
  days = omega (arith, few, sum_by_push (λ (r : Run). r.days) xs r);
  balances = All-append (λ (r : Run). r.balance ≤ balance_limit) xs (r ∷ []) are.balances (All-cons (λ (r : Run). r.balance ≤ balance_limit) r [] low (All-nil (λ (r : Run). r.balance ≤ balance_limit)));
}

-- ---- the days of the rows
pub equal_days-days : (a n balance rate : ℕ) → map (λ (r : DayRow). r.day) (equal_days a n balance rate) ≡ range_with_len a n
equal_days-days a zero balance rate = refl
equal_days-days a (suc n) balance rate = ap (λ l. a ∷ l) (equal_days-days (a + 1) n balance rate)

days-by-count : (a : ℕ) (xs : List Run) → map (λ (r : DayRow). r.day) (spread a xs) ≡ range_with_len a (run_days xs)
unfolding spread
days-by-count a [] = refl
days-by-count a (x ∷ xs) =
    map-append (λ (r : DayRow). r.day) (equal_days a x.days x.balance x.rate) (spread (a + x.days) xs)
    ∙ rw (equal_days-days a x.days x.balance x.rate, days-by-count (a + x.days) xs, sum_by-cons (λ (r : Run). r.days) x xs) (sym (range-append a x.days (run_days xs)))

-- runs stand for the days from the first on
pub spread-days : (a : ℕ) (xs : List Run) → AreDaysFrom a (spread a xs)
spread-days a xs = days-by-count a xs ∙ ap (range_with_len a) (sym (length-spread a xs))
