use Rattle.std.proofs.Common.{◌+◌, ◌-◌, arith}
use Rattle.card_events.specs.Months.{first_month}
use Rattle.card_events.proofs.Cycles.{IsAnchor}
use Rattle.card_events.proofs.Answered.{closing_reply}
use Rattle.card_events.proofs.billing.closing.Goals as goal

pub returns : goal.returns
unfolding first_month
returns c =
    let at = c.month_from.ensures in
    let h : IsAnchor c.args.a = record { first = at.first; last = at.last; low = c.requires.0; high = c.requires.1 } in
    closing_reply c.day_in_month.result c.args.a h c.args.k (c.month_from.result + (c.args.k - 1)) (omega arith) (omega (arith, at.value)) c.day_in_month.ensures
