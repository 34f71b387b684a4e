use Rattle.std.proofs.Common.{sym, subst}
use Rattle.card_trial.specs.Totals.{AreSmall, AreTotals}
use Rattle.card_trial.proofs.ledger.LedgerDesk.all_credits.Goals as goal

pub all_credits-requires : goal.all_credits-requires
all_credits-requires c = subst AreSmall (sym c.totals.ensures.value) c.totals.ensures.small

pub returns-clause-value : goal.returns-clause-value
returns-clause-value c =
    let lists = c.args.self.now.desk.recorded in
    c.all_credits.ensures.value lists (subst (AreTotals lists) (sym c.totals.ensures.value) c.totals.ensures.all)
