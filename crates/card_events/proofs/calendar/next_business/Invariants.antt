use Rattle.std.proofs.Common.{◌≡◌, ◌-◌}
use Rattle.card_events.specs.Civil.{first_day}
use Rattle.card_events.specs.Business.{is_business, next_business}
use Rattle.card_events.proofs.calendar.next_business.Given as goal

abbrev pub invariant-loop-next : goal.invariant-loop-next
invariant-loop-next l = first_day (is_business l.cal) (48_577 - l.next) l.next ≡ next_business l.cal l.fn.day

abbrev pub decreases-loop-next : goal.decreases-loop-next
decreases-loop-next l = 48_577 - l.next
