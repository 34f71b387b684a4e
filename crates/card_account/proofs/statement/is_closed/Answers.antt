use Rattle.std.proofs.Common.{arith}
use Rattle.card_reasons.proofs.ClosingLemmas.{grown}
use Rattle.card_account.proofs.statement.is_closed.Goals as goal

pub returns-in-Some-clause-small : goal.returns-in-Some-clause-small
returns-in-Some-clause-small c = λ closed. omega (arith, c.in-Some.ensures.0.1, grown c.anchor.result c.args.cycle)
