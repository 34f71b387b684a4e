-- The first rows of lists of an account that the machine has accepted.
use Rattle.std.proofs.Common.{◌≡◌, ℕ, Bool, true, false, cond, eqb, List, [], ◌∷◌, ◌++◌, refl, sym, ap, ◌∙◌, subst, arith, append_assoc, Option, Some, None}
use Rattle.std.specs.List.{All}
use Rattle.std.proofs.lemmas.Bool.Decides.{nat_tests}
use Rattle.std.proofs.lemmas.List.Elements.{All-cons, All-head, All-nil, All-tail}
use Rattle.card_model.specs.Caps.{row_for}
use Rattle.card_model.specs.Cycles.{IssuedRow}
use Rattle.card_billed.specs.Laws.{FrontsAreAccepted}

own-cycle : (x : ℕ) → eqb x x ≡ true
own-cycle x = grind (arith, nat_tests)

-- a row is found where one of its cycle is there
found : (done rest : List IssuedRow) (r : IssuedRow) → (x : IssuedRow) × (row_for r.cycle (done ++ r ∷ rest) ≡ Some x)
unfolding row_for
found [] rest r = (r, let e = own-cycle r.cycle in rw e refl)
found (d ∷ done) rest r = by (eqb d.cycle r.cycle) (found done rest r)
  where
    by : (t : Bool) → (x : IssuedRow) × (row_for r.cycle (done ++ r ∷ rest) ≡ Some x) → (x : IssuedRow) × (cond t (Some d) (row_for r.cycle (done ++ r ∷ rest)) ≡ Some x)
    by true later = (d, refl)
    by false later = later

-- with more rows behind it is the same one
found-more : (cycle : ℕ) (xs ys : List IssuedRow) (x : IssuedRow) → row_for cycle xs ≡ Some x → row_for cycle (xs ++ ys) ≡ Some x
unfolding row_for
found-more cycle [] ys x e = let no : None ≡ Some x = e in absurd (cc)
found-more cycle (r ∷ xs) ys x e = by (eqb r.cycle cycle) (found-more cycle xs ys x) e
  where
    by : (t : Bool) → (row_for cycle xs ≡ Some x → row_for cycle (xs ++ ys) ≡ Some x) → cond t (Some r) (row_for cycle xs) ≡ Some x → cond t (Some r) (row_for cycle (xs ++ ys)) ≡ Some x
    by true later e = e
    by false later e = later e

same-row : (o : Option IssuedRow) (x r : IssuedRow) → o ≡ Some x → o ≡ Some r → x ≡ r
same-row o x r e f = cc

single-from : (done rest more : List IssuedRow) → All (λ r. row_for r.cycle ((done ++ rest) ++ more) ≡ Some r) rest → All (λ r. row_for r.cycle (done ++ rest) ≡ Some r) rest
single-from done [] more h = All-nil (λ (r : IssuedRow). row_for r.cycle (done ++ []) ≡ Some r)
single-from done (r ∷ rest) more h =
    let P : List IssuedRow → IssuedRow → Type 0 = λ rows x. row_for x.cycle rows ≡ Some x in
    let here = found done rest r in
    let first : row_for r.cycle ((done ++ r ∷ rest) ++ more) ≡ Some r = All-head (P ((done ++ r ∷ rest) ++ more)) r rest h in
    let is = same-row (row_for r.cycle ((done ++ r ∷ rest) ++ more)) here.0 r (found-more r.cycle (done ++ r ∷ rest) more here.0 here.1) first in
    let shift = append_assoc done (r ∷ []) rest in
    let others = subst (λ rows. All (P (rows ++ more)) rest) (sym shift) (All-tail (P ((done ++ r ∷ rest) ++ more)) r rest h) in
    All-cons (P (done ++ r ∷ rest)) r rest (here.1 ∙ ap Some is) (subst (λ rows. All (P rows) rest) shift (single-from (done ++ r ∷ []) rest more others))

all-front : (P : IssuedRow → Type 0) (xs ys : List IssuedRow) → All P (xs ++ ys) → All P xs
all-front P [] ys h = All-nil P
all-front P (x ∷ xs) ys h = All-cons P x xs (All-head P x (xs ++ ys) h) (all-front P xs ys (All-tail P x (xs ++ ys) h))

pub fronts_are_accepted : FrontsAreAccepted
fronts_are_accepted history made rest h = record {
  count = h.count;
  terms = h.terms;
  cents = h.cents;
  rates = h.rates;
  resolved = h.resolved;
  single = single-from [] made rest (all-front (λ (r : IssuedRow). row_for r.cycle (made ++ rest) ≡ Some r) made rest h.single);
}
