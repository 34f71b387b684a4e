use Rattle.card_dayend.proofs.Held.{held-due, held-no-due}
use Rattle.card_dayend.proofs.break_day.next_after_due.Goals as goal

pub returns-in-Some : goal.returns-in-Some
returns-in-Some c a h within = held-due a c.args.dates.now c.args.first c.args.end c.next_at.result c.in-Some.day h within c.in-Some.is c.next_at.ensures

pub returns-in-None : goal.returns-in-None
returns-in-None c a h within = held-no-due a c.args.dates.now c.args.first c.args.end h c.requires within c.in-None.is
