-- What is owed on a statement's segments can be repaid.
use Rattle.std.proofs.Common.{◌≡◌, ℕ, ◌+◌, List, [], ◌∷◌, map, refl, sym, ap, ◌∙◌}
use Rattle.std.proofs.lemmas.List.Sums.{sum_by-cons}
use Rattle.card_model.specs.Cycles.{Amounts, amounts_sum}
use Rattle.card_model.specs.declared.lines.RateLine.{RateLine}
use Rattle.card_repay.specs.Amortization.{total}
use Rattle.card_repay.specs.declared.owing.Owing.{Owing}
use Rattle.card_text.specs.Repayment.{owing_of}

-- all together
pub total_is : (lines : List RateLine) (amounts : Amounts) → total (map (owing_of lines) amounts) ≡ amounts_sum amounts
unfolding total
total_is lines [] = refl
total_is lines (a ∷ others) =
    sum_by-cons (λ (o : Owing). o.cents) (owing_of lines a) (map (owing_of lines) others) ∙ ap (λ n. a.1 + n) (total_is lines others) ∙ sym (sum_by-cons (λ (x : ℕ × ℕ). x.1) a others)
