use Rattle.std.proofs.Common.{◌+◌, ◌≤◌, ◌∙◌, arith}
use Rattle.card_events.specs.Billing.{closing}
use Rattle.card_daily.proofs.ClosingDay.{anchored, is-there, next-small, value-is}
use Rattle.card_dayend.proofs.closing.next_closing.Goals as goal
use Rattle.card_events.specs.Range.{last_calendar_day}

pub unwrap-requires : goal.unwrap-requires
unwrap-requires c =
    let a = c.args.anchor.now in
    let number = c.args.number in
    is-there c.closing.result ((1 ≤ number + 1) × (closing a (number + 1) ≤ last_calendar_day)) (closing a (number + 1)) c.closing.ensures
    (omega arith, next-small a number c.args.day c.requires.closing c.requires.last)

pub returns : goal.returns
returns c =
    let a = c.args.anchor.now in
    let number = c.args.number in
    value-is c.closing.result ((1 ≤ number + 1) × (closing a (number + 1) ≤ last_calendar_day)) c.unwrap.result (closing a (number + 1)) c.closing.ensures c.unwrap.ensures
    ∙ anchored a number c.args.day c.requires.closing
