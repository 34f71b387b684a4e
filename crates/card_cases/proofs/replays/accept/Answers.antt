use Rattle.std.proofs.Common.{◌+◌, arith}
use Rattle.card_cases.proofs.Reached.{charge-dated, may-reach, no-reason, sound-with, three-steps}
use Rattle.card_cases.proofs.replays.accept.Goals as goal

pub prepare-requires-clause-dated : goal.prepare-requires-clause-dated
prepare-requires-clause-dated g c = charge-dated c.charge-post.result c.charge-post.ensures

pub prepare-requires-clause-no_reason : goal.prepare-requires-clause-no_reason
prepare-requires-clause-no_reason g c = no-reason c.day-today.result c.args.shared.now c.args.account.now.lists c.charge-post.result c.day-today.ensures c.requires.nothing c.requires.alone c.charge-post.ensures

pub prepare-requires-clause-sound : goal.prepare-requires-clause-sound
prepare-requires-clause-sound g c = sound-with c.day-today.result c.args.shared.now c.args.account.now.lists c.name-key.result c.charge-post.result c.day-today.ensures c.requires.nothing c.requires.alone c.charge-post.ensures

pub returns : goal.returns
returns g c =
    record {
      three = three-steps c.day-today.result c.args.shared.now c.args.account.now.lists c.args.account.now.folding.reached c.name-key.result c.charge-post.result c.args.steps.now c.prepare.new.steps
          c.day-today.ensures c.requires.nothing c.requires.alone c.requires.today.reached c.charge-post.ensures c.prepare.ensures.most;
      both = three-steps c.day-today.result c.args.shared.now c.args.account.now.lists c.args.account.now.folding.reached c.name-key.result c.charge-post.result (c.args.steps.now + c.args.put_off.now) (c.prepare.new.steps + c.prepare.new.put_off)
          c.day-today.ensures c.requires.nothing c.requires.alone c.requires.today.reached c.charge-post.ensures c.prepare.ensures.both;
    }

pub prepare-requires-clause-reach : goal.prepare-requires-clause-reach
prepare-requires-clause-reach g c =
    let day = c.day-today.ensures in
    let reached = c.requires.today.reached in
    may-reach c.day-today.result c.args.account.now c.requires.alone (omega (arith, day, reached)) (omega (arith, day)) (omega (arith, day))

pub first_change-from-requires-clause-reach : goal.first_change-from-requires-clause-reach
first_change-from-requires-clause-reach g c =
    let day = c.day-today.ensures in
    let reached = c.requires.today.reached in
    may-reach c.day-today.result c.args.account.now c.requires.alone (omega (arith, day, reached)) (omega (arith, day)) (omega (arith, day))

pub first_change-from-requires-clause-no_reason : goal.first_change-from-requires-clause-no_reason
first_change-from-requires-clause-no_reason g c = no-reason c.day-today.result c.args.shared.now c.args.account.now.lists c.charge-post.result c.day-today.ensures c.requires.nothing c.requires.alone c.charge-post.ensures
