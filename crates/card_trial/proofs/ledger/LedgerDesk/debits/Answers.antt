use Rattle.std.proofs.Common.{sym, subst, ◌∙◌}
use Rattle.std.specs.Int.{w128}
use Rattle.std.proofs.lemmas.Int.{to_z-of_z}
use Rattle.card_trial.specs.Totals.{AreTotals}
use Rattle.card_trial.proofs.ledger.LedgerDesk.debits.Goals as goal

pub returns : goal.returns
returns c =
    let lists = c.args.self.now.desk.recorded in
    to_z-of_z w128 c.debits.result (record { sfits = c.debits.type_inv }) ∙ c.debits.ensures lists (subst (AreTotals lists) (sym c.totals.ensures.value) c.totals.ensures.all)
