use Rattle.card_events.proofs.DueLaws.{ClosingLaws, closing_laws}
use Rattle.card_events.proofs.laws.closings.Goals as goal

law : (c : goal.After-number) → ClosingLaws c.args.a c.args.k
law c = closing_laws c.args.a (record { first = c.number.ensures.first; last = c.number.ensures.last; low = c.requires.close_day.0; high = c.requires.close_day.1 }) c.args.k c.requires.cycle c.requires.in_calendar

pub returns-clause-before_the_first : goal.returns-clause-before_the_first
returns-clause-before_the_first c = (law c).first

pub returns-clause-on_its_day : goal.returns-clause-on_its_day
returns-clause-on_its_day c = (law c).on_its_day

pub returns-clause-later : goal.returns-clause-later
returns-clause-later c = (law c).later

pub returns-clause-none_between : goal.returns-clause-none_between
returns-clause-none_between c = (law c).none_between
