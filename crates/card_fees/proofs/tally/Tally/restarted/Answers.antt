use Rattle.std.proofs.Common.{◌+◌, ◌≤◌, arith, sym}
use Rattle.card_fees.proofs.Tallied.{begins-by, none-credited, none-paid}
use Rattle.card_fees.proofs.tally.Tally.restarted.Goals as goal

pub returns-clause-right : goal.returns-clause-right
returns-clause-right c posts last l t =
    let low : c.sooner.result ≤ c.args.from = omega (arith, c.sooner.ensures) in
    let by : c.sooner.result ≤ last + 1 = omega (arith, c.sooner.ensures, l) in
    record {
      paid = sym (none-paid posts c.args.from c.sooner.result low);
      credited = sym (none-credited posts c.args.from c.sooner.result low);
      stands = begins-by c.sooner.result last by;
      due = t.due;
      before = t.before;
    }
