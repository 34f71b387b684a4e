use Rattle.std.proofs.lemmas.Result.{on_ok_weaker}
use Rattle.card_cases.proofs.Aged.{aged-is}
use Rattle.card_cases.proofs.desks.age.Goals as goal

pub returns-clause-state : goal.returns-clause-state
returns-clause-state g c =
    on_ok_weaker c.roll-4.result
    (aged-is c.args.desk.now.state c.roll.new.desk.state c.roll-2.new.desk.state c.roll-3.new.desk.state c.roll-4.new.desk.state c.day.result c.day-2.result c.day-3.result c.day-4.result
    c.requires.state c.day.ensures c.day-2.ensures c.day-3.ensures c.day-4.ensures c.in_ok-roll.ensures.state c.in_ok-roll-2.ensures.state c.in_ok-roll-3.ensures.state)
    c.roll-4.ensures.state
