use Rattle.std.proofs.Common.{◌+◌, ◌-◌, ◌*◌, refl, arith}
use Rattle.card_events.proofs.Starts.{from_month}
use Rattle.card_events.proofs.day.Day.from_ymd.Goals as goal

pub returns : goal.returns
returns c = from_month c.in_month.result c.args.y c.args.m c.args.d ((c.args.y - 2011) * 12 + (c.args.m - 1)) (omega arith) (omega arith) (omega arith) (omega arith) (omega arith) refl c.in_month.ensures
