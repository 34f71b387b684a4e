use Rattle.std.proofs.Common.{arith}
use Rattle.card_replay.proofs.Again.{beginning-plain, closing-plain}
use Rattle.card_replay.proofs.rewinding.at_closing_if_any.Goals as goal

pub at_closing-requires-clause-some : goal.at_closing-requires-clause-some
at_closing-requires-clause-some c = omega (arith, c.if-cycle-eq0.false)

pub returns-then-cycle-eq0 : goal.returns-then-cycle-eq0
returns-then-cycle-eq0 c = λ old g p from reached may. beginning-plain c.at_beginning.result c.if-cycle-eq0.true c.at_beginning.ensures may

pub returns : goal.returns
returns c = λ old g p from reached may. closing-plain c.in_ok-earlier.earlier c.in_ok-book.book c.in_ok-earlier.ensures c.in_ok-book.ensures may
