use Rattle.std.proofs.lemmas.Result.{on_ok_weaker}
use Rattle.card_cases.proofs.Aged.{dated-roll, stays-there}
use Rattle.card_cases.proofs.desks.roll.Goals as goal

pub returns-clause-reached : goal.returns-clause-reached
returns-clause-reached g c = on_ok_weaker c.carry.result (stays-there c.carry.result c.args.desk.now c.carry.new.desk _) c.carry.ensures.reached

pub carry-requires-clause-dated : goal.carry-requires-clause-dated
carry-requires-clause-dated g c = dated-roll c.args.day c.requires.dated
