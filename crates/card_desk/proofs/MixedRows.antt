-- Rows in either format.
use Rattle.std.proofs.Common.{◌≡◌, ℕ, suc, ◌+◌, true, List, [], ◌∷◌, ◌++◌, length, take, Some, refl, ap, ◌∙◌, subst, arith}
use Rattle.std.specs.Prelude.{slice_get}
use Rattle.std.specs.List.{list_all}
use Rattle.std.proofs.lemmas.Bool.{and_parts, and_from}
use Rattle.card_events.specs.declared.request.Request.{Request}
use Rattle.card_ports.specs.Rows.{next_after}
use Rattle.card_ports.specs.declared.row.Row.{Row}
use Rattle.card_rows.specs.Held.{is_request}
use Rattle.card_rows.proofs.RequestLaws.{some_request, second_some}
use Rattle.card_desk.specs.Kept.{IsRowOf, AreRowsFrom, row_of, rows_from}

-- the row that is written is one
pub written_row : (n : ℕ) (r : Request) → is_request r ≡ true → IsRowOf n (row_of n r) r
written_row n r taken = record { seq = refl; spelled = second_some r taken }

pub written_rows : (n : ℕ) (rs : List Request) → list_all is_request rs ≡ true → AreRowsFrom n (rows_from n rs) rs
unfolding AreRowsFrom rows_from
written_rows n [] all = tt
written_rows n (r ∷ rs) all =
    let both = and_parts (is_request r) (list_all is_request rs) all in
    (written_row n r both.0, written_rows (n + 1) rs both.1)

pub are_taken : (n : ℕ) (rows : List Row) (rs : List Request) → AreRowsFrom n rows rs → list_all is_request rs ≡ true
unfolding AreRowsFrom
are_taken n [] [] are = refl
are_taken n [] (r ∷ rs) are = absurd are
are_taken n (row ∷ rows) [] are = absurd are
are_taken n (row ∷ rows) (r ∷ rs) are = and_from (is_request r) (list_all is_request rs) are.0.spelled.spells.held (are_taken (n + 1) rows rs are.1)

pub are_length : (n : ℕ) (rows : List Row) (rs : List Request) → AreRowsFrom n rows rs → length rows ≡ length rs
unfolding AreRowsFrom
are_length n [] [] are = refl
are_length n [] (r ∷ rs) are = absurd are
are_length n (row ∷ rows) [] are = absurd are
are_length n (row ∷ rows) (r ∷ rs) are = ap suc (are_length (n + 1) rows rs are.1)

-- they tell their requests
pub are_same : (n : ℕ) (rows : List Row) (a b : List Request) → AreRowsFrom n rows a → AreRowsFrom n rows b → a ≡ b
unfolding AreRowsFrom
are_same n [] [] [] these those = refl
are_same n [] [] (y ∷ b) these those = absurd those
are_same n [] (x ∷ a) b these those = absurd these
are_same n (row ∷ rows) [] b these those = absurd these
are_same n (row ∷ rows) (x ∷ a) [] these those = absurd those
are_same n (row ∷ rows) (x ∷ a) (y ∷ b) these those =
    ap (λ (r : Request). r ∷ a) (some_request row.body x y these.0.spelled those.0.spelled) ∙ ap (λ (l : List Request). y ∷ l) (are_same (n + 1) rows a b these.1 those.1)

-- rows behind rows
pub are_more : (n m : ℕ) (rows : List Row) (rs : List Request) (after : List Row) (others : List Request) → n + length rs ≡ m → AreRowsFrom n rows rs → AreRowsFrom m after others → AreRowsFrom n (rows ++ after) (rs ++ others)
unfolding AreRowsFrom
are_more n m [] [] after others place are more = let same : m ≡ n = omega (arith, place) in subst (λ (k : ℕ). AreRowsFrom k after others) same more
are_more n m [] (r ∷ rs) after others place are more = absurd are
are_more n m (row ∷ rows) [] after others place are more = absurd are
are_more n m (row ∷ rows) (r ∷ rs) after others place are more = (are.0, are_more (n + 1) m rows rs after others (omega (arith, place)) are.1 more)

pub one_row : (n : ℕ) (row : Row) (r : Request) → IsRowOf n row r → AreRowsFrom n (row ∷ []) (r ∷ [])
unfolding AreRowsFrom
one_row n row r is = (is, tt)

-- the number of the next row
pub are_next : (n : ℕ) (rows : List Row) (rs : List Request) → AreRowsFrom n rows rs → next_after n rows ≡ n + length rs
unfolding AreRowsFrom next_after
are_next n [] [] are = omega arith
are_next n [] (r ∷ rs) are = absurd are
are_next n (row ∷ rows) [] are = absurd are
are_next n (row ∷ rows) (r ∷ rs) are = ap (λ (k : ℕ). next_after (k + 1) rows) are.0.seq ∙ are_next (n + 1) rows rs are.1 ∙ omega arith

-- the row at a place, and those before it
pub record IsRowAt (n : ℕ) (rows : List Row) (front : List Request) (one : Request) : Type 0 where
  pub row : Row
  pub there : slice_get rows (length front) ≡ Some row
  pub is : IsRowOf (n + length front) row one
  pub before : AreRowsFrom n (take (length front) rows) front

pub row_at : (n : ℕ) (rows : List Row) (front : List Request) (one : Request) (rest : List Request) → AreRowsFrom n rows (front ++ one ∷ rest) → IsRowAt n rows front one
unfolding AreRowsFrom
row_at n [] [] one rest are = absurd are
row_at n [] (x ∷ front) one rest are = absurd are
row_at n (row ∷ rows) [] one rest are = record { row = row; there = refl; is = subst (λ (k : ℕ). IsRowOf k row one) (let e : n ≡ n + 0 = omega arith in e) are.0; before = tt }
row_at n (row ∷ rows) (x ∷ front) one rest are =
    let at = row_at (n + 1) rows front one rest are.1 in
    record { row = at.row; there = at.there; is = subst (λ (k : ℕ). IsRowOf k at.row one) (let e : n + 1 + length front ≡ n + suc (length front) = omega arith in e) at.is; before = (are.0, at.before) }
