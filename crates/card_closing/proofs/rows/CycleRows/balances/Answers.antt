use Rattle.std.proofs.Common.{◌*◌, ◌≤◌, subst}
use Rattle.card_model.specs.Limits.{balance_limit}
use Rattle.card_closing.specs.Runs.{run_days}
use Rattle.card_closing.proofs.Spreads.{length-spread}
use Rattle.card_closing.proofs.rows.CycleRows.balances.Goals as goal

pub returns-clause-bound : goal.returns-clause-bound
returns-clause-bound c =
    rw (← c.self.view_is, length-spread c.self.inside.first c.self.inside.runs.items)
    (subst (λ rs. c.balances_sum.result ≤ run_days rs * balance_limit) c.deref.ensures.value c.balances_sum.ensures.bound)
