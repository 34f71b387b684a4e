-- The index of a day, with one more row and over the rows up to a later day (12 CFR 1026.55(b)(2)).
use Rattle.std.proofs.Common.{◌≡◌, ℕ, ◌+◌, ◌<◌, ◌≤◌, Bool, true, false, cond, nat_lt, nat_le, nat_eq, List, [], ◌∷◌, Option, Some, None, refl, sym, ap, ◌∙◌, subst, arith}
use Rattle.std.specs.Prelude.{is_some}
use Rattle.std.specs.List.{filter, filter_map, fold}
use Rattle.std.specs.Option.{option_map, option_or}
use Rattle.std.proofs.lemmas.Bool.Decides.{nat_tests}
use Rattle.card_events.specs.SharedRows.{AreByDay, IndexRow, index_row_of, with_index}
use Rattle.card_events.proofs.IndexRows.{index-by-day, up_to}
use Rattle.card_model.specs.Indexed.{IndexIsTheLatest, newer}
use Rattle.card_model.specs.Rates.{index_on}
use Rattle.card_model.specs.Segments.{last_that}

-- the last row that passes is one of those from a day on
pub last-from : (low day : ℕ) (rows : List IndexRow) (o : IndexRow) → AreByDay low rows → last_that (up_to day) rows ≡ Some o → low ≤ o.day
unfolding AreByDay
last-from low day [] o h e = cc
last-from low day (r ∷ rs) o h e = at (last_that (up_to day) rs) refl (nat_le r.day day) e (λ q. last-from (r.day + 1) day rs o h.1 q)
  where
    at : (last : Option IndexRow) → last_that (up_to day) rs ≡ last → (t : Bool) → option_or last (cond t (Some r) None) ≡ Some o → (last_that (up_to day) rs ≡ Some o → r.day + 1 ≤ o.day) → low ≤ o.day
    at (Some y) q t f k = let rest : r.day + 1 ≤ o.day = k (q ∙ f) in omega (arith, rest, h.0)
    at None q true f k = let same : r ≡ o = cc in subst (λ (u : IndexRow). low ≤ u.day) same h.0
    at None q false f k = cc

-- of the rows up to a day the newest is the last one, where the one so far is of later days or of none
keeps-later : (r : IndexRow) (last : Option IndexRow) → ((o : IndexRow) → last ≡ Some o → r.day < o.day) → option_or last (Some r) ≡ newer last r
keeps-later r None h = refl
keeps-later r (Some o) h = let less : nat_lt r.day o.day ≡ true = at (h o refl) in rw less refl
  where
    at : r.day < o.day → nat_lt r.day o.day ≡ true
    at l = grind (arith, nat_tests)

-- a row up to the day
last-in : (low day : ℕ) (rows : List IndexRow) (row : IndexRow) → AreByDay low rows → nat_le row.day day ≡ true → last_that (up_to day) (with_index row rows) ≡ newer (last_that (up_to day) rows) row
unfolding with_index AreByDay
last-in low day [] row h t = rw t refl
last-in low day (r ∷ rs) row h t = at (nat_lt row.day r.day) (nat_eq row.day r.day) refl refl (last-in (r.day + 1) day rs row h.1 t)
  where
    ahead : (last : Option IndexRow) (s : Bool) → nat_lt row.day r.day ≡ false → nat_le r.day day ≡ s → nat_le row.day day ≡ true → option_or (newer last row) (cond s (Some r) None) ≡ newer (option_or last (cond s (Some r) None)) row
    ahead None true e q u = rw e refl
    ahead None false e q u = refl
    ahead (Some o) s e q u = two (nat_lt row.day o.day)
      where
        two : (b : Bool) → option_or (cond b (Some o) (Some row)) (cond s (Some r) None) ≡ cond b (Some o) (Some row)
        two true = refl
        two false = refl

    over : (last : Option IndexRow) → nat_lt row.day r.day ≡ false → nat_le r.day day ≡ true → ((o : IndexRow) → last ≡ Some o → row.day < o.day) → option_or last (Some row) ≡ newer (option_or last (Some r)) row
    over None e q k = rw e refl
    over (Some o) e q k = keeps-later row (Some o) k

    at : (a b : Bool) → nat_lt row.day r.day ≡ a → nat_eq row.day r.day ≡ b → last_that (up_to day) (with_index row rs) ≡ newer (last_that (up_to day) rs) row
        → last_that (up_to day) (cond a (row ∷ r ∷ rs) (cond b (row ∷ rs) (r ∷ with_index row rs))) ≡ newer (last_that (up_to day) (r ∷ rs)) row
    at true b e f rest =
        let less : row.day < r.day = grind (arith, nat_tests) in
        rw t (keeps-later row (last_that (up_to day) (r ∷ rs)) (λ o q. let far : row.day + 1 ≤ o.day = last-from (row.day + 1) day (r ∷ rs) o (omega (arith, less), h.1) q in omega (arith, far)))
    at false true e f rest =
        let same : row.day ≡ r.day = grind (arith, nat_tests) in
        let passes : nat_le r.day day ≡ true = ap (λ d. nat_le d day) (sym same) ∙ t in
        rw (t, passes) (over (last_that (up_to day) rs) e passes (λ o q. let far : r.day + 1 ≤ o.day = last-from (r.day + 1) day rs o h.1 q in omega (arith, far, same)))
    at false false e f rest = ap (λ o. option_or o (cond (nat_le r.day day) (Some r) None)) rest ∙ ahead (last_that (up_to day) rs) (nat_le r.day day) e refl t

-- a row after the day
last-out : (day : ℕ) (rows : List IndexRow) (row : IndexRow) → nat_le row.day day ≡ false → last_that (up_to day) (with_index row rows) ≡ last_that (up_to day) rows
unfolding with_index
last-out day [] row t = rw t refl
last-out day (r ∷ rs) row t = at (nat_lt row.day r.day) (nat_eq row.day r.day) refl (last-out day rs row t)
  where
    none : (o : Option IndexRow) → option_or o None ≡ o
    none None = refl
    none (Some x) = refl

    at : (a b : Bool) → nat_eq row.day r.day ≡ b → last_that (up_to day) (with_index row rs) ≡ last_that (up_to day) rs → last_that (up_to day) (cond a (row ∷ r ∷ rs) (cond b (row ∷ rs) (r ∷ with_index row rs))) ≡ last_that (up_to day) (r ∷ rs)
    at true b f rest = rw t (none (last_that (up_to day) (r ∷ rs)))
    at false true f rest = let other : nat_le r.day day ≡ false = grind (arith, nat_tests) in rw (t, other) refl
    at false false f rest = ap (λ o. option_or o (cond (nat_le r.day day) (Some r) None)) rest

-- all rows in turn
latest : (day : ℕ) (rows all : List IndexRow) → AreByDay 0 all
    → last_that (up_to day) (fold (λ these row. with_index row these) all rows) ≡ fold newer (last_that (up_to day) all) (filter (up_to day) rows)
latest day [] all h = refl
latest day (r ∷ rs) all h = latest day rs (with_index r all) (index-by-day 0 all r h (omega arith)) ∙ at (nat_le r.day day) refl
  where
    at : (t : Bool) → nat_le r.day day ≡ t → fold newer (last_that (up_to day) (with_index r all)) (filter (up_to day) rs) ≡ fold newer (last_that (up_to day) all) (cond t (r ∷ filter (up_to day) rs) (filter (up_to day) rs))
    at true e = ap (λ o. fold newer o (filter (up_to day) rs)) (last-in 0 day all r h e)
    at false e = ap (λ o. fold newer o (filter (up_to day) rs)) (last-out day all r e)

pub index-latest : IndexIsTheLatest
unfolding AreByDay
index-latest requests day = ap (option_map (λ r. r.rate)) (latest day (filter_map index_row_of requests) [] tt)

-- a day that has an index keeps one
pub index-stays : (day : ℕ) (rows : List IndexRow) (row : IndexRow) → AreByDay 0 rows → is_some (index_on rows day) ≡ true → is_some (index_on (with_index row rows) day) ≡ true
index-stays day rows row h some = at (nat_le row.day day) refl
  where
    newest : (o : Option IndexRow) → is_some (option_map (λ (r : IndexRow). r.rate) (newer o row)) ≡ true
    newest None = refl
    newest (Some o) = two (nat_lt row.day o.day)
      where
        two : (b : Bool) → is_some (option_map (λ (r : IndexRow). r.rate) (cond b (Some o) (Some row))) ≡ true
        two true = refl
        two false = refl

    at : (t : Bool) → nat_le row.day day ≡ t → is_some (index_on (with_index row rows) day) ≡ true
    at true e = ap (λ o. is_some (option_map (λ (r : IndexRow). r.rate) o)) (last-in 0 day rows row h e) ∙ newest (last_that (up_to day) rows)
    at false e = ap (λ o. is_some (option_map (λ (r : IndexRow). r.rate) o)) (last-out day rows row e) ∙ some

-- the index of a day is that of the rows up to a later one
pub index-up_to : (day last : ℕ) (rows : List IndexRow) → day ≤ last → index_on (filter (λ r. nat_le r.day last) rows) day ≡ index_on rows day
index-up_to day last rows l = ap (option_map (λ r. r.rate)) (these rows)
  where
    these : (rows : List IndexRow) → last_that (up_to day) (filter (up_to last) rows) ≡ last_that (up_to day) rows
    these [] = refl
    these (r ∷ rs) = at (nat_le r.day last) refl (these rs)
      where
        none : (o : Option IndexRow) → option_or o None ≡ o
        none None = refl
        none (Some x) = refl

        at : (t : Bool) → nat_le r.day last ≡ t → last_that (up_to day) (filter (up_to last) rs) ≡ last_that (up_to day) rs → last_that (up_to day) (cond t (r ∷ filter (up_to last) rs) (filter (up_to last) rs)) ≡ last_that (up_to day) (r ∷ rs)
        at true e rest = ap (λ o. option_or o (cond (nat_le r.day day) (Some r) None)) rest
        at false e rest = let no : nat_le r.day day ≡ false = grind (arith, nat_tests) in rest ∙ rw no (sym (none (last_that (up_to day) rs)))
