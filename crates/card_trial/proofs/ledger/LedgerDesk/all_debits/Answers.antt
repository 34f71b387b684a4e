use Rattle.std.proofs.Common.{sym, subst}
use Rattle.card_trial.specs.Totals.{AreSmall, AreTotals}
use Rattle.card_trial.proofs.ledger.LedgerDesk.all_debits.Goals as goal

pub all_debits-requires : goal.all_debits-requires
all_debits-requires c = subst AreSmall (sym c.totals.ensures.value) c.totals.ensures.small

pub returns-clause-value : goal.returns-clause-value
returns-clause-value c =
    let lists = c.args.self.now.desk.recorded in
    c.all_debits.ensures.value lists (subst (AreTotals lists) (sym c.totals.ensures.value) c.totals.ensures.all)
