use Rattle.std.proofs.Common.{◌+◌, ◌-◌, ◌∙◌, ap, arith}
use Rattle.card_events.specs.Civil.{date_of}
use Rattle.card_events.proofs.DateFacts.{date_of-in_calendar}
use Rattle.card_events.proofs.Starts.{IsHeld, held}
use Rattle.card_events.proofs.day.Day.month_and_day.Goals as goal

holds : (c : goal.After-start_of) → IsHeld c.month_at-month.result (c.self.inside.number - 14_975 - c.start_of.result + 1) c.self.inside.number
holds c = held c.month_at-month.result c.start_of.result c.self.inside.number c.month_at-month.ensures.month c.start_of.ensures (omega (arith, c.start_of.ensures, c.month_at-month.ensures.first)) (omega (arith, c.month_at-month.ensures.last))

pub overflow_cast-result : goal.overflow_cast-result
overflow_cast-result c = omega (arith, (holds c).small)

pub returns-clause-month : goal.returns-clause-month
returns-clause-month c = rw c.self.view_is at (holds c).month

pub returns-clause-day : goal.returns-clause-day
returns-clause-day c = (holds c).day ∙ ap (λ n. (date_of n).day) c.self.view_is

pub returns-clause-in_calendar : goal.returns-clause-in_calendar
returns-clause-in_calendar c = date_of-in_calendar c.args.self (omega (arith, c.self.view_is)) (omega (arith, c.self.view_is))
