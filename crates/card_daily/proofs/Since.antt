-- The issued statement of a cycle, at the place of its number or from the last one back.
use Rattle.std.proofs.Common.{◌≡◌, ℕ, suc, ◌+◌, ◌<◌, ◌≤◌, length, get_or, List, [], ◌∷◌, refl, sym, ap, ◌∙◌, subst, arith, Some, None, ◌⊎◌, inl, inr}
use Rattle.std.specs.List.{All}
use Rattle.std.specs.List.Sorted.{IsNonDecreasingBy}
use Rattle.std.proofs.lemmas.Bool.{cases_lt, ne_eqb}
use Rattle.std.proofs.lemmas.List.{get_or_default}
use Rattle.std.proofs.lemmas.List.Elements.{All-get_or}
use Rattle.card_model.specs.Accepted.{AreSingle}
use Rattle.card_model.specs.Caps.{row_for}
use Rattle.card_model.specs.Cycles.{IssuedRow}

-- no statement from a place on is of the cycle
abbrev pub NoneFrom : ℕ → ℕ → List IssuedRow → Type 0
NoneFrom cycle i rows = (k : ℕ) (d : IssuedRow) → i ≤ k → k < length rows → (get_or rows k d).cycle ≡ cycle → ⊥

pub none-found : (cycle : ℕ) (rows : List IssuedRow) → NoneFrom cycle 0 rows → row_for cycle rows ≡ None
unfolding row_for
none-found cycle [] h = refl
none-found cycle (r ∷ rows) h =
    let apart = ne_eqb r.cycle cycle (λ e. h 0 r (omega arith) (omega arith) e) in
    rw apart (none-found cycle rows (λ k d l m e. h (suc k) d (omega arith) (omega (arith, m)) e))

pub found : (cycle : ℕ) (rows : List IssuedRow) (i : ℕ) (r : IssuedRow) → AreSingle rows → i < length rows → r ≡ get_or rows i r → r.cycle ≡ cycle → row_for cycle rows ≡ Some r
found cycle rows i r s l is e =
    let one = All-get_or (λ (x : IssuedRow). row_for x.cycle rows ≡ Some x) rows i r l s in
    subst (λ n. row_for n rows ≡ Some r) e (subst (λ (x : IssuedRow). row_for x.cycle rows ≡ Some x) (sym is) one)

-- where one of them was issued by the day, no earlier one is of it
pub none-before : (cycle day : ℕ) (rows : List IssuedRow) (i : ℕ) (r : IssuedRow) → i < length rows → r ≡ get_or rows i r → r.day ≤ day → IsNonDecreasingBy (λ (x : IssuedRow). x.day) rows
    → All (λ (x : IssuedRow). x.cycle ≡ cycle → day < x.day) rows → NoneFrom cycle (i + 1) rows → NoneFrom cycle 0 rows
none-before cycle day rows i r l is early order later h k d low m e = by (cases_lt i k)
  where
    by : (i < k) ⊎ (k ≤ i) → ⊥
    by (inl n) = h k d (omega (arith, n)) m e
    by (inr n) =
        let here = ap (λ (x : IssuedRow). x.day) (get_or_default rows i d r l ∙ sym is) in
        let up = order k i d n l in
        let late = All-get_or (λ (x : IssuedRow). x.cycle ≡ cycle → day < x.day) rows k d m later e in
        absurd (omega (arith, here, up, late, early))
