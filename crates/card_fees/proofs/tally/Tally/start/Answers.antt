use Rattle.std.proofs.Common.{◌≤◌, arith, sym}
use Rattle.card_fees.proofs.Tallied.{begins-by, none-credited, none-paid}
use Rattle.card_fees.proofs.tally.Tally.start.Goals as goal

pub returns : goal.returns
returns c posts last l =
    let same : c.args.from ≤ c.args.from = omega arith in
    record {
      paid = sym (none-paid posts c.args.from c.args.from same);
      credited = sym (none-credited posts c.args.from c.args.from same);
      stands = begins-by c.args.from last l;
      due = tt;
      before = tt;
    }
