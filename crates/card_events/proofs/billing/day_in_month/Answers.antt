use Rattle.std.proofs.Common.{arith}
use Rattle.card_events.proofs.Starts.{from_number}
use Rattle.card_events.proofs.billing.day_in_month.Goals as goal

pub returns : goal.returns
returns c = from_number c.in_month.result c.args.month c.args.d (omega arith) (omega arith) c.requires.0 c.requires.1 c.in_month.ensures
