use Rattle.std.proofs.Common.{◌≡◌, drop}
use Rattle.card_events.specs.Range.{first_calendar_day}
use Rattle.card_statement.specs.Standing.{are_in_order}
use Rattle.card_statement.proofs.standing.are_in_order.Given as goal

abbrev pub invariant-loop-entry : goal.invariant-loop-entry
invariant-loop-entry l = are_in_order first_calendar_day l.last l.entries ≡ are_in_order l.before l.last (drop l.entry-index l.entries)
