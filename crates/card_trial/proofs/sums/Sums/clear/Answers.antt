use Rattle.std.proofs.Common.{◌≡◌, ◌∙◌, ap, ℕ, length, arith}
use Rattle.std.proofs.lemmas.List.{length-replicate}
use Rattle.card_trial.specs.Sums.{whole}
use Rattle.card_trial.proofs.Cells.{whole-zeros}
use Rattle.card_trial.proofs.sums.Sums.clear.Goals as goal

pub invariant_of-self : goal.invariant_of-self
invariant_of-self c =
    let none : whole c.fill.new.self.items ≡ 0 = ap whole (c.fill.ensures.items (λ y e. e)) ∙ whole-zeros _ in
    let count = c.self.invariant.0 in
    (ap length (c.fill.ensures.items (λ y e. e)) ∙ (length-replicate {A = ℕ} _ 0 ∙ (c.self.inside.cells.ok.0 ∙ count)), omega (arith, none))

pub returns-clause-sum : goal.returns-clause-sum
returns-clause-sum c = ap whole (c.fill.ensures.items (λ y e. e)) ∙ whole-zeros _
