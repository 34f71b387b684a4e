use Rattle.std.proofs.Common.{arith}
use Rattle.card_reasons.proofs.ClosingLemmas.{grown}
use Rattle.card_reasons.proofs.closings.closing_of.Goals as goal

pub returns-in-Err : goal.returns-in-Err
returns-in-Err c = λ within. c.in-Err.ensures (omega (arith, within.1, grown c.args.anchor.now c.args.cycle, c.get.ensures.value))
