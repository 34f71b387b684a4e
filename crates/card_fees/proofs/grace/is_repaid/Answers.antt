use Rattle.std.proofs.Common.{arith}
use Rattle.card_fees.proofs.grace.is_repaid.Goals as goal

pub next-from-requires : goal.next-from-requires
next-from-requires c = omega (arith, c.requires.known.closed, c.requires.known.last)
