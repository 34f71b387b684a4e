use Rattle.std.proofs.Common.{◌≤◌, ◌^◌, sym, subst}
use Rattle.card_trial.specs.Sums.{AreSums, whole}
use Rattle.card_trial.specs.Totals.{BothSums}
use Rattle.card_trial.specs.declared.side.Side.TheVariants as side
use Rattle.card_trial.proofs.totals.Totals.all_credits.Goals as goal

pub of_all_kinds-requires : goal.of_all_kinds-requires
of_all_kinds-requires c = subst (λ (t : BothSums). whole t.credits ≤ 2 ^ 120) (sym c.self.view_is) (c.requires side.Credits)

pub returns-clause-value : goal.returns-clause-value
returns-clause-value c lists a =
    let sums : AreSums side.Credits lists c.self.inside.credits = subst (λ (t : BothSums). AreSums side.Credits lists t.credits) (sym c.self.view_is) (a.sums side.Credits) in
    c.of_all_kinds.ensures.value side.Credits lists sums
