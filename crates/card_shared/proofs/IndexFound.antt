-- Rows of the index as a table keeps them.
use Rattle.std.proofs.Common.{◌≡◌, ℕ, zero, suc, ◌+◌, ◌-◌, ◌<◌, ◌≤◌, Bool, true, false, cond, nat_lt, nat_le, nat_eq, List, [], ◌∷◌, length, get_or, set, Option, Some, None, refl, sym, ap, ◌∙◌, arith}
use Rattle.std.specs.List.{find, insert}
use Rattle.std.specs.List.Sorted.{IsPartitionedBy}
use Rattle.std.specs.Option.{option_map}
use Rattle.std.specs.Prelude.{slice_get}
use Rattle.std.proofs.lemmas.Bool.Decides.{nat_tests}
use Rattle.card_model.specs.Segments.{last_that}
use Rattle.card_events.specs.SharedRows.{AreByDay, IndexRow, with_index}
use Rattle.card_model.specs.Rates.{index_on}
use Rattle.card_shared.specs.IndexTable.{is_day, index_row, index_rows, leading}
use Rattle.card_shared.specs.declared.index_table.Row.{Row}

-- ---- a cut of the rows
pub less-down : (z x y : ℕ) → x ≤ y → nat_lt y z ≡ true → nat_lt x z ≡ true
less-down z x y l e = grind (arith, nat_tests)

pub up_to-down : (z x y : ℕ) → x ≤ y → nat_le y z ≡ true → nat_le x z ≡ true
up_to-down z x y l e = grind (arith, nat_tests)

from-at : (low : ℕ) (rows : List Row) → AreByDay low (index_rows rows) → (j : ℕ) (d : Row) → j < length rows → low ≤ (get_or rows j d).day
unfolding AreByDay
from-at low [] h j d l = absurd (omega (arith, l))
from-at low (r ∷ rs) h zero d l = h.0
from-at low (r ∷ rs) h (suc j) d l = let rest = from-at (r.day + 1) rs h.1 j d (omega (arith, l)) in omega (arith, rest, h.0)

pub parted : (p : ℕ → Bool) → ((x y : ℕ) → x ≤ y → p y ≡ true → p x ≡ true) → (low : ℕ) (rows : List Row) → AreByDay low (index_rows rows) → IsPartitionedBy (λ r. p r.day) rows
unfolding AreByDay
parted p down low [] h i j d m l e = absurd (omega (arith, l))
parted p down low (r ∷ rs) h zero zero d m l e = e
parted p down low (r ∷ rs) h zero (suc j) d m l e = let far = from-at (r.day + 1) rs h.1 j d (omega (arith, l)) in down r.day (get_or rs j d).day (omega (arith, far)) e
parted p down low (r ∷ rs) h (suc i) zero d m l e = absurd (omega (arith, m))
parted p down low (r ∷ rs) h (suc i) (suc j) d m l e = parted p down (r.day + 1) rs h.1 i j d (omega (arith, m)) (omega (arith, l)) e

pub point-leading : (p : IndexRow → Bool) (rows : List Row) (i : ℕ) → ((k : ℕ) (d : Row) → 0 ≤ k → k < i → p (index_row (get_or rows k d)) ≡ true)
    → ((k : ℕ) (d : Row) → i ≤ k → k < length rows → p (index_row (get_or rows k d)) ≡ false) → i ≤ length rows → i ≡ leading p (index_rows rows)
unfolding leading
point-leading p [] i front back l = omega (arith, l)
point-leading p (r ∷ rs) zero front back l = let no = back 0 r (omega arith) (omega arith) in rw no refl
point-leading p (r ∷ rs) (suc i) front back l =
    let yes = front 0 r (omega arith) (omega arith) in
    let rest = point-leading p rs i (λ k d m n. front (suc k) d (omega arith) (omega (arith, n))) (λ k d m n. back (suc k) d (omega (arith, m)) (omega (arith, n))) (omega (arith, l)) in
    rw yes (ap suc rest)

-- a cut behind the first row, or in front of it
is-in : (t : Bool) (i n : ℕ) → suc i ≡ cond t (suc n) 0 → t ≡ true
is-in true i n e = refl
is-in false i n e = absurd (omega (arith, e))

is-out : (t : Bool) (n : ℕ) → 0 ≡ cond t (suc n) 0 → t ≡ false
is-out true n e = absurd (omega (arith, e))
is-out false n e = refl

less-in : (t : Bool) (i n : ℕ) → suc i ≡ cond t (suc n) 0 → i ≡ n
less-in true i n e = omega (arith, e)
less-in false i n e = absurd (omega (arith, e))

above : (x y : ℕ) → nat_lt x y ≡ false → nat_eq x y ≡ false → nat_lt y x ≡ true
above x y e f = grind (arith, nat_tests)

-- ---- one more row
-- .. of a day that is there
pub there : (rows : List Row) (day i : ℕ) → is_day day (slice_get rows i) ≡ true → i < length rows
there [] day i e = cc
there (r ∷ rs) day zero e = omega arith
there (r ∷ rs) day (suc i) e = let rest = there rs day i e in omega (arith, rest)

pub with-set : (rows : List Row) (row : Row) (i : ℕ) → i ≡ leading (λ r. nat_lt r.day row.day) (index_rows rows) → is_day row.day (slice_get rows i) ≡ true → with_index (index_row row) (index_rows rows) ≡ index_rows (set rows i row)
unfolding with_index leading
with-set [] row i is e = cc
with-set (r ∷ rs) row zero is e =
    let below : nat_lt row.day r.day ≡ false = grind (arith, nat_tests) in
    let same : nat_eq row.day r.day ≡ true = grind (arith, nat_tests) in
    rw (below, same) refl
with-set (r ∷ rs) row (suc i) is e =
    let inside : nat_lt r.day row.day ≡ true = is-in (nat_lt r.day row.day) i (leading (λ r. nat_lt r.day row.day) (index_rows rs)) is in
    let rest : i ≡ leading (λ r. nat_lt r.day row.day) (index_rows rs) = less-in (nat_lt r.day row.day) i (leading (λ r. nat_lt r.day row.day) (index_rows rs)) is in
    let below : nat_lt row.day r.day ≡ false = grind (arith, nat_tests) in
    let same : nat_eq row.day r.day ≡ false = grind (arith, nat_tests) in
    rw (below, same) (ap (λ xs. index_row r ∷ xs) (with-set rs row i rest e))

-- .. of a day that isn't
pub with-insert : (rows : List Row) (row : Row) (i : ℕ) → i ≡ leading (λ r. nat_lt r.day row.day) (index_rows rows) → is_day row.day (slice_get rows i) ≡ false → with_index (index_row row) (index_rows rows) ≡ index_rows (insert rows i row)
unfolding with_index leading
with-insert [] row zero is other = refl
with-insert [] row (suc i) is other = absurd (omega (arith, is))
with-insert (r ∷ rs) row zero is other =
    let out : nat_lt r.day row.day ≡ false = is-out (nat_lt r.day row.day) (leading (λ r. nat_lt r.day row.day) (index_rows rs)) is in
    let below : nat_lt row.day r.day ≡ true = above r.day row.day out other in
    rw below refl
with-insert (r ∷ rs) row (suc i) is other =
    let inside : nat_lt r.day row.day ≡ true = is-in (nat_lt r.day row.day) i (leading (λ r. nat_lt r.day row.day) (index_rows rs)) is in
    let rest : i ≡ leading (λ r. nat_lt r.day row.day) (index_rows rs) = less-in (nat_lt r.day row.day) i (leading (λ r. nat_lt r.day row.day) (index_rows rs)) is in
    let below : nat_lt row.day r.day ≡ false = grind (arith, nat_tests) in
    let same : nat_eq row.day r.day ≡ false = grind (arith, nat_tests) in
    rw (below, same) (ap (λ xs. index_row r ∷ xs) (with-insert rs row i rest other))

-- ---- the first row from a day on
pub first-from : (day : ℕ) (rows : List Row) (i : ℕ) → i ≡ leading (λ r. nat_lt r.day day) (index_rows rows) → find (λ r. nat_le day r.day) (index_rows rows) ≡ option_map index_row (slice_get rows i)
unfolding leading
first-from day [] zero is = refl
first-from day [] (suc i) is = absurd (omega (arith, is))
first-from day (r ∷ rs) zero is =
    let out : nat_lt r.day day ≡ false = is-out (nat_lt r.day day) (leading (λ r. nat_lt r.day day) (index_rows rs)) is in
    let here : nat_le day r.day ≡ true = grind (arith, nat_tests) in
    rw here refl
first-from day (r ∷ rs) (suc i) is =
    let inside : nat_lt r.day day ≡ true = is-in (nat_lt r.day day) i (leading (λ r. nat_lt r.day day) (index_rows rs)) is in
    let rest : i ≡ leading (λ r. nat_lt r.day day) (index_rows rs) = less-in (nat_lt r.day day) i (leading (λ r. nat_lt r.day day) (index_rows rs)) is in
    let here : nat_le day r.day ≡ false = grind (arith, nat_tests) in
    rw here (first-from day rs i rest)

-- ---- the last row up to a day
none-up_to : (day low : ℕ) (rows : List IndexRow) → AreByDay low rows → day < low → last_that (λ r. nat_le r.day day) rows ≡ None
unfolding AreByDay
none-up_to day low [] h l = refl
none-up_to day low (r ∷ rs) h l =
    let out : nat_le r.day day ≡ false = at h.0 in
    let rest : last_that (λ r. nat_le r.day day) rs ≡ None = none-up_to day (r.day + 1) rs h.1 (omega (arith, l, h.0)) in
    rw (rest, out) refl
  where
    at : low ≤ r.day → nat_le r.day day ≡ false
    at m = grind (arith, nat_tests)

pub last-none : (day low : ℕ) (rows : List Row) → AreByDay low (index_rows rows) → 0 ≡ leading (λ r. nat_le r.day day) (index_rows rows) → last_that (λ r. nat_le r.day day) (index_rows rows) ≡ None
unfolding AreByDay leading
last-none day low [] h is = refl
last-none day low (r ∷ rs) h is =
    let out : nat_le r.day day ≡ false = is-out (nat_le r.day day) (leading (λ r. nat_le r.day day) (index_rows rs)) is in
    let far : day < r.day + 1 = grind (arith, nat_tests) in
    let rest : last_that (λ r. nat_le r.day day) (index_rows rs) ≡ None = none-up_to day (r.day + 1) (index_rows rs) h.1 far in
    rw (rest, out) refl

pub last-some : (day low : ℕ) (rows : List Row) (i : ℕ) (d : Row) → AreByDay low (index_rows rows) → suc i ≡ leading (λ r. nat_le r.day day) (index_rows rows) → last_that (λ r. nat_le r.day day) (index_rows rows) ≡ Some (index_row (get_or rows i d))
unfolding AreByDay leading
last-some day low [] i d h is = absurd (omega (arith, is))
last-some day low (r ∷ rs) zero d h is =
    let inside : nat_le r.day day ≡ true = is-in (nat_le r.day day) 0 (leading (λ r. nat_le r.day day) (index_rows rs)) is in
    let rest : last_that (λ r. nat_le r.day day) (index_rows rs) ≡ None = last-none day (r.day + 1) rs h.1 (less-in (nat_le r.day day) 0 (leading (λ r. nat_le r.day day) (index_rows rs)) is) in
    rw (rest, inside) refl
last-some day low (r ∷ rs) (suc i) d h is =
    let rest = last-some day (r.day + 1) rs i d h.1 (less-in (nat_le r.day day) (suc i) (leading (λ r. nat_le r.day day) (index_rows rs)) is) in
    rw rest refl

pub leading-up_to : (p : IndexRow → Bool) (rows : List Row) → leading p (index_rows rows) ≤ length rows
unfolding leading
leading-up_to p [] = omega arith
leading-up_to p (r ∷ rs) = at (p (index_row r)) (leading-up_to p rs)
  where
    at : (t : Bool) → leading p (index_rows rs) ≤ length rs → cond t (suc (leading p (index_rows rs))) 0 ≤ suc (length rs)
    at true l = omega (arith, l)
    at false l = omega arith

-- ---- what the table's calls answer
pub first-day : (day : ℕ) (rows : List Row) (i : ℕ) → i ≡ leading (λ r. nat_lt r.day day) (index_rows rows) → option_map (λ r. r.day) (slice_get rows i) ≡ option_map (λ r. r.day) (find (λ r. nat_le day r.day) (index_rows rows))
first-day day rows i is = two (slice_get rows i) ∙ ap (option_map (λ (r : IndexRow). r.day)) (sym (first-from day rows i is))
  where
    two : (o : Option Row) → option_map (λ (r : Row). r.day) o ≡ option_map (λ (r : IndexRow). r.day) (option_map index_row o)
    two None = refl
    two (Some r) = refl

pub none-on : (day : ℕ) (rows : List Row) (n : ℕ) → AreByDay 0 (index_rows rows) → n ≡ leading (λ r. nat_le r.day day) (index_rows rows) → n ≡ 0 → None ≡ index_on (index_rows rows) day
none-on day rows n h is none = ap (option_map (λ (r : IndexRow). r.rate)) (sym (last-none day 0 rows h (sym none ∙ is)))

pub rate-on : (day : ℕ) (rows : List Row) (n : ℕ) (d : Row) → AreByDay 0 (index_rows rows) → n ≡ leading (λ r. nat_le r.day day) (index_rows rows) → (n ≡ 0 → ⊥) → Some (get_or rows (n - 1) d).rate ≡ index_on (index_rows rows) day
rate-on day rows zero d h is some = absurd (some refl)
rate-on day rows (suc i) d h is some =
    let place : suc i - 1 ≡ i = omega arith in
    ap (λ j. Some (get_or rows j d).rate) place ∙ ap (option_map (λ (r : IndexRow). r.rate)) (sym (last-some day 0 rows i d h is))
