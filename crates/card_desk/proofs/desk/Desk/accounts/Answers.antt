use Rattle.std.proofs.Common.{subst}
use Rattle.card_desk.proofs.Entries.{all_today}
use Rattle.card_desk.specs.Desks.{IsRun, OpenDesk}
use Rattle.card_desk.proofs.desk.Desk.accounts.Goals as goal

pub returns-clause-today : goal.returns-clause-today
returns-clause-today c = λ all.
    let d = c.self.inside in
    all_today d.index d.common d.count d.today d.shared.items d.accounts.items c.args.self.now c.self.invariant c.self.view_is all

pub returns-clause-ran : goal.returns-clause-ran
returns-clause-ran c = subst (λ (d : OpenDesk). IsRun d.state) c.self.view_is c.self.invariant.ran
