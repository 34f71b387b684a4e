use Rattle.std.proofs.Common.{◌≤◌}
use Rattle.card_events.specs.Billing.{due}
use Rattle.card_daily.proofs.ClosingDay.{due-small, is-there}
use Rattle.card_dayend.proofs.closing.due_date.Goals as goal
use Rattle.card_events.specs.Range.{last_calendar_day}

pub unwrap-requires : goal.unwrap-requires
unwrap-requires c =
    let a = c.args.anchor.now in
    let number = c.args.number in
    is-there c.due.result ((1 ≤ number) × (due a number ≤ last_calendar_day)) (due a number) c.due.ensures
    (c.requires.closing.first, due-small a number c.args.day c.requires.closing c.requires.last)
