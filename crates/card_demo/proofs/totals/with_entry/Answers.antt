use Rattle.std.proofs.Common.{◌≡◌, ℕ, ◌+◌, ◌^◌, ℤ, ◌+ℤ◌, FitsSigned, refl, sym, ap, ◌∙◌, subst, rules, to_z, of_z, w64}
use Rattle.std.proofs.lemmas.Int.{to_z-of_z}
use Rattle.card_demo.proofs.SumLemmas.{same_totals}
use Rattle.card_segments.specs.Balances.{IsWithin}
use mir.Syntax.{w128}
use Rattle.card_demo.proofs.totals.with_entry.Goals as goal

added : (sum cents x y : ℤ) → x ≡ sum → y ≡ cents → x +ℤ y ≡ sum +ℤ cents
added sum cents x y p q = rw (p, q) refl

-- what comes of a sum and cents, as they are passed on
value_is : (sum cents result : ℤ) → FitsSigned w128 sum → FitsSigned w64 cents → FitsSigned w128 result → result ≡ to_z w128 (of_z w128 sum) +ℤ to_z w64 (of_z w64 cents)
    → to_z w128 (of_z w128 result) ≡ sum +ℤ cents
value_is sum cents result large small fits is =
    to_z-of_z w128 result fits ∙ (is ∙ added sum cents _ _ (to_z-of_z w128 sum large) (to_z-of_z w64 cents small))

bound_is : (n : ℕ) (sum result : ℤ) → FitsSigned w128 sum → FitsSigned w128 result → (IsWithin n (to_z w128 (of_z w128 sum)) → IsWithin (n + 2 ^ 63) result)
    → IsWithin n sum → IsWithin (n + 2 ^ 63) (to_z w128 (of_z w128 result))
bound_is n sum result large fits bound within =
    subst (IsWithin (n + 2 ^ 63)) (sym (to_z-of_z w128 result fits)) (bound (subst (IsWithin n) (sym (to_z-of_z w128 sum large)) within))

pub returns : goal.returns
returns c =
    let t = c.args.sums.now in
    let e = c.args.entry.now in
    let owed : FitsSigned w128 t.owed = search rules in
    let interest : FitsSigned w128 t.interest = search rules in
    let fees : FitsSigned w128 t.fees = search rules in
    let cents : FitsSigned w64 e.cents = search rules in
    let first : FitsSigned w128 c.plus.result = record { sfits = c.plus.type_inv } in
    let second : FitsSigned w128 c.plus-2.result = record { sfits = c.plus-2.type_inv } in
    let third : FitsSigned w128 c.plus-3.result = record { sfits = c.plus-3.type_inv } in
    record {
      sums = same_totals _ _ _ _ _ _
          (value_is t.owed e.cents c.plus.result owed cents first c.plus.ensures.value)
          (value_is t.interest c.interest_in.result c.plus-2.result interest (record { sfits = c.interest_in.type_inv }) second c.plus-2.ensures.value ∙ ap (λ (z : ℤ). t.interest +ℤ z) c.interest_in.ensures)
          (value_is t.fees c.fee_in.result c.plus-3.result fees (record { sfits = c.fee_in.type_inv }) third c.plus-3.ensures.value ∙ ap (λ (z : ℤ). t.fees +ℤ z) c.fee_in.ensures);
      bound = λ n h. record {
        owed = bound_is n t.owed c.plus.result owed first (c.plus.ensures.bound n) h.owed;
        interest = bound_is n t.interest c.plus-2.result interest second (c.plus-2.ensures.bound n) h.interest;
        fees = bound_is n t.fees c.plus-3.result fees third (c.plus-3.ensures.bound n) h.fees;
      };
    }
