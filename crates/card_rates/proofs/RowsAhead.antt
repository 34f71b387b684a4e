-- The first index row from a day on, in rows by day.
use Rattle.std.proofs.Common.{◌≡◌, ℕ, ◌+◌, ◌<◌, ◌≤◌, Bool, true, false, cond, ◌||◌, eqb, leb, List, [], ◌∷◌, Option, Some, None, refl, sym, ap, ◌∙◌, subst, arith}
use Rattle.std.specs.List.{find, list_any}
use Rattle.std.specs.Option.{option_map}
use Rattle.std.proofs.lemmas.Bool.{eq-eqb, ne_eqb}
use Rattle.std.proofs.lemmas.Bool.Decides.{nat_tests}
use Rattle.card_events.specs.SharedRows.{AreByDay, IndexRow}
use Rattle.card_rates.specs.Next.{IsNext}
use Rattle.card_rates.proofs.Nearest.{next-never}

abbrev is_row : ℕ → IndexRow → Bool
is_row x r = eqb r.day x

-- the test whether a row is of this day or a later one
abbrev is_from : ℕ → IndexRow → Bool
is_from first r = leb first r.day

-- no row is of a day before all of them
none-early : (low x : ℕ) (rows : List IndexRow) → AreByDay low rows → x < low → list_any (is_row x) rows ≡ false
unfolding AreByDay
none-early low x [] h l = refl
none-early low x (r ∷ rs) h l =
    let m = h.0 in
    let here : eqb r.day x ≡ false = ne_eqb r.day x (λ e. omega (arith, e, l, m)) in
    let rest : list_any (is_row x) rs ≡ false = none-early (r.day + 1) x rs h.1 (omega (arith, l, m)) in
    rw (here, rest) refl

-- a day comes before the row that was found, if one was
abbrev ComesBefore : ℕ → Option IndexRow → Type 0
ComesBefore x None = Unit {0}
ComesBefore x (Some r) = x < r.day

-- no row is of a day between
none-between : (low first x : ℕ) (rows : List IndexRow) → AreByDay low rows → first ≤ x → ComesBefore x (find (is_from first) rows) → list_any (is_row x) rows ≡ false
unfolding AreByDay
none-between low first x [] h l b = refl
none-between low first x (r ∷ rs) h l b = by (leb first r.day) refl b (none-between (r.day + 1) first x rs h.1 l)
  where
    by : (t : Bool) → leb first r.day ≡ t → ComesBefore x (cond t (Some r) (find (is_from first) rs)) → (ComesBefore x (find (is_from first) rs) → list_any (is_row x) rs ≡ false) → (eqb r.day x || list_any (is_row x) rs) ≡ false
    by true e m more =
        let here : eqb r.day x ≡ false = ne_eqb r.day x (λ s. omega (arith, s, m)) in
        let rest : list_any (is_row x) rs ≡ false = none-early (r.day + 1) x rs h.1 (omega (arith, m)) in
        rw (here, rest) refl
    by false e m more =
        let early : r.day < first = grind (arith, nat_tests) in
        let here : eqb r.day x ≡ false = ne_eqb r.day x (λ s. omega (arith, s, early, l)) in
        let rest : list_any (is_row x) rs ≡ false = more m in
        rw (here, rest) refl

-- a row that was found is one of the rows, and isn't of an earlier day
record IsFound (first : ℕ) (rows : List IndexRow) (r : IndexRow) : Type 0 where
  pub low : first ≤ r.day
  pub there : list_any (is_row r.day) rows ≡ true

or-later : (s t : Bool) → t ≡ true → (s || t) ≡ true
or-later true t e = refl
or-later false t e = e

found : (first : ℕ) (rows : List IndexRow) (r : IndexRow) → find (is_from first) rows ≡ Some r → IsFound first rows r
found first [] r e = cc
found first (x ∷ xs) r e = by (leb first x.day) refl e (found first xs r)
  where
    by : (t : Bool) → leb first x.day ≡ t → cond t (Some x) (find (is_from first) xs) ≡ Some r → (find (is_from first) xs ≡ Some r → IsFound first xs r) → IsFound first (x ∷ xs) r
    by true l s more =
        let same : x ≡ r = cc in
        let low : first ≤ x.day = grind (arith, nat_tests) in
        subst (IsFound first (x ∷ xs)) same (record { low = low; there = (let itself : eqb x.day x.day ≡ true = eq-eqb x.day x.day refl in rw itself refl) })
    by false l s more =
        let rest = more s in
        record { low = rest.low; there = or-later (eqb x.day r.day) (list_any (is_row r.day) xs) rest.there }

-- ---- the next day with a row
abbrev day_of : IndexRow → ℕ
day_of r = r.day

-- the day of the row that was found
pub row-there : (rows : List IndexRow) (first end day : ℕ) → AreByDay 0 rows → Some day ≡ option_map day_of (find (is_from first) rows) → day < end → IsNext (λ x. list_any (λ r. eqb r.day x) rows) first end day
row-there rows first end day h e l = by (find (is_from first) rows) refl e
  where
    by : (o : Option IndexRow) → find (is_from first) rows ≡ o → Some day ≡ option_map day_of o → IsNext (λ x. list_any (λ r. eqb r.day x) rows) first end day
    by None f s = cc
    by (Some r) f s =
        let same : r.day ≡ day = cc in
        let it = found first rows r f in
        let low = it.low in
        record {
          low = omega (arith, low, same);
          high = omega (arith, l);
          none = λ x a b. none-between 0 first x rows h a (subst (ComesBefore x) (sym f) (omega (arith, b, same)));
          some = λ _. ap (λ d. list_any (is_row d) rows) (sym same) ∙ it.there;
        }

-- the end, where none was found or that of a later day
pub row-late : (rows : List IndexRow) (first end day : ℕ) → AreByDay 0 rows → first ≤ end → Some day ≡ option_map day_of (find (is_from first) rows) → end ≤ day → IsNext (λ x. list_any (λ r. eqb r.day x) rows) first end end
row-late rows first end day h l e m = by (find (is_from first) rows) refl e
  where
    by : (o : Option IndexRow) → find (is_from first) rows ≡ o → Some day ≡ option_map day_of o → IsNext (λ x. list_any (λ r. eqb r.day x) rows) first end end
    by None f s = cc
    by (Some r) f s =
        let same : r.day ≡ day = cc in
        next-never (λ x. list_any (is_row x) rows) first end l (λ x a b. none-between 0 first x rows h a (subst (ComesBefore x) (sym f) (omega (arith, b, m, same))))

pub row-none : (rows : List IndexRow) (first end : ℕ) → AreByDay 0 rows → first ≤ end → None ≡ option_map day_of (find (is_from first) rows) → IsNext (λ x. list_any (λ r. eqb r.day x) rows) first end end
row-none rows first end h l e = by (find (is_from first) rows) refl e
  where
    by : (o : Option IndexRow) → find (is_from first) rows ≡ o → None ≡ option_map day_of o → IsNext (λ x. list_any (λ r. eqb r.day x) rows) first end end
    by (Some r) f s = cc
    by None f s =
        next-never (λ x. list_any (is_row x) rows) first end l (λ x a b. none-between 0 first x rows h a (subst (ComesBefore x) (sym f) tt))
