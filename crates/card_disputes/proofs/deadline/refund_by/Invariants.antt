use Rattle.std.proofs.Common.{◌≡◌, ◌+◌, ◌-◌, ◌*◌, ◌≤◌}
use Rattle.card_events.specs.Range.{last_request_day}
use Rattle.card_model.specs.Deadlines.{business_day_after}
use Rattle.card_disputes.proofs.deadline.refund_by.Given as goal

abbrev pub invariant-loop : goal.invariant-loop
invariant-loop l = (business_day_after l.calendar (7 - l.counter) l.last ≡ business_day_after l.calendar 7 l.fn.day) × (l.last ≤ last_request_day + 3 * l.counter)
