use Rattle.std.proofs.Common.{◌≡◌, ◌+◌, ◌^◌, arith, refl, sym, ap, ◌∙◌, subst, ℤ, ◌+ℤ◌, FitsSigned, to_z, of_z, w64}
use Rattle.std.proofs.lemmas.Int.{to_z-of_z}
use Rattle.card_segments.proofs.SumsBack.{cents-within}
use Rattle.card_demo.proofs.SumLemmas.{fits-wide, sum-within}
use Rattle.card_segments.specs.Balances.{IsWithin}
use mir.Syntax.{w128}
use Rattle.card_demo.proofs.totals.plus.Goals as goal

-- the cents, as 128 bits have them
widened : (wide cents : ℤ) → FitsSigned w128 wide → FitsSigned w64 cents → wide ≡ to_z w64 (of_z w64 cents) → to_z w128 (of_z w128 wide) ≡ cents
widened wide cents large small is = to_z-of_z w128 wide large ∙ (is ∙ to_z-of_z w64 cents small)

added : (sum cents x y : ℤ) → x ≡ sum → y ≡ cents → x +ℤ y ≡ sum +ℤ cents
added sum cents x y p q = rw (p, q) refl

fits : (sum cents : ℤ) → IsWithin (2 ^ 120) sum → IsWithin (2 ^ 63) cents → FitsSigned w128 (sum +ℤ cents)
fits sum cents a b = fits-wide (2 ^ 120 + 2 ^ 63) (sum +ℤ cents) (omega arith) (sum-within (2 ^ 120) (2 ^ 63) sum cents a b)

summed : (sum cents x : ℤ) → x ≡ sum +ℤ cents → FitsSigned w128 (sum +ℤ cents) → to_z w128 (of_z w128 x) ≡ sum +ℤ cents
summed sum cents x is fit = ap (λ (z : ℤ). to_z w128 (of_z w128 z)) is ∙ to_z-of_z w128 (sum +ℤ cents) fit

pub overflow_add-result : goal.overflow_add-result
overflow_add-result c =
    let within = cents-within c.args.cents c.ranges.cents in
    let large : FitsSigned w128 c.from.result = record { sfits = c.from.type_inv } in
    let is = added c.args.sum c.args.cents _ _ (to_z-of_z w128 c.args.sum c.ranges.sum) (widened c.from.result c.args.cents large c.ranges.cents c.from.ensures) in
    subst (FitsSigned w128) (sym is) (fits c.args.sum c.args.cents c.requires.room within)

pub returns : goal.returns
returns c =
    let within = cents-within c.args.cents c.ranges.cents in
    let large : FitsSigned w128 c.from.result = record { sfits = c.from.type_inv } in
    let is = added c.args.sum c.args.cents _ _ (to_z-of_z w128 c.args.sum c.ranges.sum) (widened c.from.result c.args.cents large c.ranges.cents c.from.ensures) in
    let value = summed c.args.sum c.args.cents _ is (fits c.args.sum c.args.cents c.requires.room within) in
    record {
      value = value;
      bound = λ n h. subst (IsWithin (n + 2 ^ 63)) (sym value) (sum-within n (2 ^ 63) c.args.sum c.args.cents h within);
    }
