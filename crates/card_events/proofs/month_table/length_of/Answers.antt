use Rattle.std.proofs.Common.{arith}
use Rattle.card_events.proofs.Starts.{next_start}
use Rattle.card_events.proofs.month_table.length_of.Goals as goal

pub overflow_sub-result : goal.overflow_sub-result
overflow_sub-result c = omega (arith, c.start_of.ensures, c.start_of-2.ensures, next_start c.args.month)

pub returns : goal.returns
returns c = omega (arith, c.start_of.ensures, c.start_of-2.ensures, next_start c.args.month)
