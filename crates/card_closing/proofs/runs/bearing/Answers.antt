use Rattle.std.proofs.Common.{sym}
use Rattle.card_closing.proofs.Sums.{all_bear, none_bear}
use Rattle.card_closing.proofs.runs.bearing.Goals as goal

pub returns-in-None-clause-sum : goal.returns-in-None-clause-sum
returns-in-None-clause-sum c =
    let run = c.args.run.now in
    rw c.in-None.is (sym (none_bear c.args.first run.days run.balance run.rate))

pub returns-in-Plain-clause-sum : goal.returns-in-Plain-clause-sum
returns-in-Plain-clause-sum c =
    let run = c.args.run.now in
    rw c.in-Plain.is (sym (all_bear c.args.first run.days run.balance run.rate))
