-- Rows of the index by day, with one more.
use Rattle.std.proofs.Common.{◌≡◌, ℕ, ◌+◌, ◌<◌, ◌≤◌, Bool, true, false, cond, ◌||◌, nat_lt, nat_le, nat_eq, List, [], ◌∷◌, ◌++◌, Option, Some, None, refl, sym, ap, ◌∙◌, subst, arith}
use Rattle.std.specs.List.{filter, filter_map, fold, list_any}
use Rattle.std.proofs.lemmas.Bool.Decides.{nat_tests}
use Rattle.std.proofs.lemmas.List.Elements.{filter_map-append}
use Rattle.std.proofs.lemmas.List.Sums.{fold_push}
use Rattle.std.proofs.lemmas.List.{append-nil}
use Rattle.card_events.specs.SharedRows.{AreByDay, IndexRow, index_row_of, rows_by_day, shared_rows, with_index}
use Rattle.card_events.specs.declared.request.Shared.{Shared}

-- a row of a day up to another
abbrev pub up_to : ℕ → IndexRow → Bool
up_to day r = nat_le r.day day

-- ---- order
pub index-by-day : (low : ℕ) (rows : List IndexRow) (row : IndexRow) → AreByDay low rows → low ≤ row.day → AreByDay low (with_index row rows)
unfolding with_index AreByDay
index-by-day low [] row h l = (l, tt)
index-by-day low (r ∷ rs) row h l = at (nat_lt row.day r.day) (nat_eq row.day r.day) refl refl (index-by-day (r.day + 1) rs row h.1)
  where
    at : (a b : Bool) → nat_lt row.day r.day ≡ a → nat_eq row.day r.day ≡ b → (r.day + 1 ≤ row.day → AreByDay (r.day + 1) (with_index row rs)) → AreByDay low (cond a (row ∷ r ∷ rs) (cond b (row ∷ rs) (r ∷ with_index row rs)))
    at true b e f rest = let less : row.day < r.day = grind (arith, nat_tests) in (l, (omega (arith, less), h.1))
    at false true e f rest = let same : row.day ≡ r.day = grind (arith, nat_tests) in (l, subst (λ d. AreByDay (d + 1) rs) (sym same) h.1)
    at false false e f rest = let more : r.day < row.day = grind (arith, nat_tests) in (h.0, rest (omega (arith, more)))

pub all-by-day : (rows all : List IndexRow) → AreByDay 0 all → AreByDay 0 (fold (λ these row. with_index row these) all rows)
all-by-day [] all h = h
all-by-day (r ∷ rs) all h = all-by-day rs (with_index r all) (index-by-day 0 all r h (omega arith))

-- rows as they were accepted are by day
pub are-by-day : (rows : List IndexRow) → AreByDay 0 (rows_by_day rows)
unfolding AreByDay
are-by-day rows = all-by-day rows [] tt

-- ---- what one more row changes
-- a later row changes none of those up to a day
pub index-later : (day : ℕ) (row : IndexRow) (rows : List IndexRow) → day < row.day → filter (λ r. nat_le r.day day) (with_index row rows) ≡ filter (λ r. nat_le r.day day) rows
unfolding with_index
index-later day row [] l = let no : nat_le row.day day ≡ false = grind (arith, nat_tests) in rw no refl
index-later day row (r ∷ rs) l = at (nat_lt row.day r.day) (nat_eq row.day r.day) refl (index-later day row rs l)
  where
    no : nat_le row.day day ≡ false
    no = grind (arith, nat_tests)

    at : (a b : Bool) → nat_eq row.day r.day ≡ b → filter (up_to day) (with_index row rs) ≡ filter (up_to day) rs → filter (up_to day) (cond a (row ∷ r ∷ rs) (cond b (row ∷ rs) (r ∷ with_index row rs))) ≡ filter (up_to day) (r ∷ rs)
    at true b f rest = rw no refl
    at false true f rest = let other : nat_le r.day day ≡ false = grind (arith, nat_tests) in rw (no, other) refl
    at false false f rest = ap (λ xs. cond (nat_le r.day day) (r ∷ xs) xs) rest

-- a day has a row afterwards where it is the new one's, or had one
pub index-days : (x : ℕ) (row : IndexRow) (rows : List IndexRow) → list_any (λ r. nat_eq r.day x) (with_index row rows) ≡ (nat_eq row.day x || list_any (λ r. nat_eq r.day x) rows)
unfolding with_index
index-days x row [] = refl
index-days x row (r ∷ rs) = at (nat_lt row.day r.day) (nat_eq row.day r.day) refl (index-days x row rs)
  where
    swap : (a b c : Bool) → (a || (b || c)) ≡ (b || (a || c))
    swap true true c = refl
    swap true false c = refl
    swap false b c = refl

    once : (a b : Bool) → a ≡ b → (c : Bool) → (a || c) ≡ (a || (b || c))
    once true b e c = refl
    once false false e c = refl
    once false true e c = cc

    at : (a b : Bool) → nat_eq row.day r.day ≡ b → list_any (λ r. nat_eq r.day x) (with_index row rs) ≡ (nat_eq row.day x || list_any (λ r. nat_eq r.day x) rs) → list_any (λ r. nat_eq r.day x) (cond a (row ∷ r ∷ rs) (cond b (row ∷ rs) (r ∷ with_index row rs))) ≡ (nat_eq row.day x || (nat_eq r.day x || list_any (λ r. nat_eq r.day x) rs))
    at true b f rest = refl
    at false true f rest = let same : row.day ≡ r.day = grind (arith, nat_tests) in once (nat_eq row.day x) (nat_eq r.day x) (ap (λ d. nat_eq d x) same) (list_any (λ r. nat_eq r.day x) rs)
    at false false f rest = ap (λ t. nat_eq r.day x || t) rest ∙ swap (nat_eq r.day x) (nat_eq row.day x) (list_any (λ r. nat_eq r.day x) rs)

-- the rows with one more, where the request is a row
abbrev pub with_more : Option IndexRow → List IndexRow → List IndexRow
with_more None rows = rows
with_more (Some row) rows = with_index row rows

-- the index after one more request
pub index-more : (rs : List Shared) (r : Shared) → (shared_rows (rs ++ r ∷ [])).index ≡ with_more (index_row_of r) (shared_rows rs).index
index-more rs r = ap rows_by_day (filter_map-append index_row_of rs (r ∷ [])) ∙ at (index_row_of r) refl
  where
    at : (o : Option IndexRow) → index_row_of r ≡ o → rows_by_day (filter_map index_row_of rs ++ filter_map index_row_of (r ∷ [])) ≡ with_more o (shared_rows rs).index
    at None e = rw e (ap rows_by_day (append-nil (filter_map index_row_of rs)))
    at (Some row) e = rw e (fold_push (λ these row. with_index row these) [] (filter_map index_row_of rs) row)

-- the index of a run is by day
pub index-is-by-day : (rs : List Shared) → AreByDay 0 (shared_rows rs).index
index-is-by-day rs = are-by-day (filter_map index_row_of rs)
