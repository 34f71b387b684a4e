use Rattle.std.proofs.Common.{pos, sym, ◌∙◌, subst, w64}
use Rattle.std.specs.Prelude.{◌≤ℤ◌}
use Rattle.std.proofs.lemmas.Int.{to_z-of_z}
use Rattle.card_effects.proofs.HeldSums.{all-high}
use Rattle.card_effects.proofs.resolves.moved_by.Goals as goal
use Rattle.card_model.specs.Limits.{balance_limit}

pub returns-else-sum-lt0-clause-high : goal.returns-else-sum-lt0-clause-high
returns-else-sum-lt0-clause-high c =
    subst (λ z. z ≤ℤ pos balance_limit) (sym (to_z-of_z w64 c.held_sum-sum.result (record { sfits = c.held_sum-sum.type_inv }) ∙ c.held_sum-sum.ensures)) (all-high c.args.dispute c.args.entries.now c.requires)
