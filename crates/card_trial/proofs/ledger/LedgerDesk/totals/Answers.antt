use Rattle.std.proofs.Common.{◌≤◌, length, ap, subst, arith}
use Rattle.card_trial.specs.Totals.{AreSmall, OpenLedger}
use Rattle.card_trial.proofs.Changed.{totals-small}
use Rattle.card_trial.proofs.ledger.LedgerDesk.totals.Goals as goal

pub returns-clause-small : goal.returns-clause-small
returns-clause-small c =
    let few : length c.self.inside.desk.recorded ≤ 1_000_000 = omega (arith, c.accounts-count.ensures.few, c.accounts-count.ensures.recorded) in
    subst AreSmall (ap (λ (l : OpenLedger). l.totals) c.self.view_is) (totals-small c.self.inside.desk.recorded c.self.inside.totals c.self.invariant few)
