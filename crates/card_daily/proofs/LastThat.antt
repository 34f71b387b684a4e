-- The last cycle that passes a test, from the end on.
use Rattle.std.proofs.Common.{◌≡◌, ℕ, zero, suc, ◌+◌, ◌<◌, ◌≤◌, Bool, true, false, cond, List, [], ◌∷◌, drop, length, get_or, refl, sym, ap, ◌∙◌, arith, Option, Some, None}
use Rattle.std.specs.Option.{option_or}
use Rattle.std.proofs.lemmas.List.{drop_more}
use Rattle.card_model.specs.Cycles.{Cycle}
use Rattle.card_model.specs.Folds.{cycle_at}
use Rattle.card_model.specs.Segments.{last_that}

-- one that passes behind a place is the last
behind : (p : Cycle → Bool) (i : ℕ) (cs : List Cycle) (c : Cycle) → last_that p (drop i cs) ≡ Some c → last_that p cs ≡ Some c
behind p zero cs c e = e
behind p (suc i) [] c e = e
behind p (suc i) (x ∷ cs) c e = let rest = behind p i cs c e in rw rest refl

at-place : (p : Cycle → Bool) (i : ℕ) (cs : List Cycle) (d : Cycle) → i < length cs → last_that p (drop i cs) ≡ option_or (last_that p (drop (i + 1) cs)) (cond (p (get_or cs i d)) (Some (get_or cs i d)) None)
at-place p i cs d l = ap (last_that p) (drop_more cs i d l)

pub passes : (p : Cycle → Bool) (i : ℕ) (cs : List Cycle) (c : Cycle) → i < length cs → last_that p (drop (i + 1) cs) ≡ None → p (get_or cs i c) ≡ true → last_that p cs ≡ Some (get_or cs i c)
passes p i cs c l none t = behind p i cs (get_or cs i c) (at-place p i cs c l ∙ rw (none, t) refl)

pub fails : (p : Cycle → Bool) (i : ℕ) (cs : List Cycle) (c : Cycle) → i < length cs → last_that p (drop (i + 1) cs) ≡ None → p (get_or cs i c) ≡ false → last_that p (drop i cs) ≡ None
fails p i cs c l none t = at-place p i cs c l ∙ rw (none, t) refl

-- where it stands
pub record IsAt (p : Cycle → Bool) (cs : List Cycle) (c : Cycle) : Type 0 where
  pub number : ℕ
  pub first : 1 ≤ number
  pub at : cycle_at number cs ≡ Some c
  pub passes : p c ≡ true

pub found-at : (p : Cycle → Bool) (cs : List Cycle) (c : Cycle) → last_that p cs ≡ Some c → IsAt p cs c
found-at p [] c e = cc
found-at p (x ∷ cs) c e = by (last_that p cs) refl (p x) refl e (found-at p cs c)
  where
    later : (n : ℕ) → 1 ≤ n → cycle_at n cs ≡ Some c → cycle_at (n + 1) (x ∷ cs) ≡ Some c
    later zero l h = absurd (omega (arith, l))
    later (suc n) l h = let e : suc n + 1 ≡ suc (suc n) = omega arith in ap (λ k. cycle_at k (x ∷ cs)) e ∙ h

    by : (o : Option Cycle) → last_that p cs ≡ o → (t : Bool) → p x ≡ t → option_or o (cond t (Some x) None) ≡ Some c → (last_that p cs ≡ Some c → IsAt p cs c) → IsAt p (x ∷ cs) c
    by (Some y) q t u e ih =
        let rest = ih (q ∙ e) in
        record { number = rest.number + 1; first = omega arith; at = later rest.number rest.first rest.at; passes = rest.passes }
    by None q true u e ih = let same : x ≡ c = cc in record { number = 1; first = omega arith; at = e; passes = ap p (sym same) ∙ u }
    by None q false u e ih = cc
