use Rattle.card_events.proofs.DueLaws.{DueLaw, due_law, prompt_is_timely}
use Rattle.card_events.proofs.laws.due_dates.Goals as goal

law : (c : goal.After-number) → DueLaw c.args.a c.args.k
law c = due_law c.args.a (record { first = c.number.ensures.first; last = c.number.ensures.last; low = c.requires.close_day.0; high = c.requires.close_day.1 }) c.args.k c.requires.cycle c.requires.in_calendar

pub returns-clause-same_day : goal.returns-clause-same_day
returns-clause-same_day c = (law c).same_day

pub returns-clause-next_month : goal.returns-clause-next_month
returns-clause-next_month c = (law c).month

pub returns-clause-its_year : goal.returns-clause-its_year
returns-clause-its_year c = (law c).year

pub returns-clause-early : goal.returns-clause-early
returns-clause-early c = (law c).early

pub returns-clause-late : goal.returns-clause-late
returns-clause-late c = (law c).late

pub returns-clause-at_least : goal.returns-clause-at_least
returns-clause-at_least c = (law c).at_least

pub returns-clause-at_most : goal.returns-clause-at_most
returns-clause-at_most c = (law c).at_most

pub returns-clause-before_the_next : goal.returns-clause-before_the_next
returns-clause-before_the_next c = (law c).before_next

pub returns-clause-prompt : goal.returns-clause-prompt
returns-clause-prompt c = λ l. prompt_is_timely c.args.a c.args.k c.args.issued (law c) l
