use Rattle.std.proofs.Common.{arith}
use Rattle.card_dayend.specs.Spans.{IsCycleOf}
use Rattle.card_dayend.proofs.cursor.dates_of.Goals as goal

pub returns : goal.returns
returns c =
    let number = c.cycle_of-number.ensures in
    let upto = number.up_to_its_own in
    let closes = c.closing_of-closing.ensures in
    let cycle : IsCycleOf c.args.anchor.now c.cycle_of-number.result c.args.day = record {
      opening = c.requires.opening;
      opened = c.requires.opened;
      last = c.requires.last;
      numbered = number.from_one;
      after = number.after_the_last;
      upto = upto;
    } in
    record {
      dates = record { cycle = cycle; closes = closes; first_cycle = c.after_due-after_due.ensures.none; follows = c.after_due-after_due.ensures.some };
      first = omega arith;
      upto = omega (arith, upto, closes);
      last = c.requires.last;
    }
