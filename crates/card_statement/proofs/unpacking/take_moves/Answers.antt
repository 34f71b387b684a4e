use Rattle.std.proofs.Common.{◌≡◌, arith}
use Rattle.card_statement.specs.Packing.{move_in}
use Rattle.card_statement.proofs.PackingSteps.{line-read, lines-read}
use Rattle.card_statement.proofs.unpacking.take_moves.Goals as goal

pub loop-preserved : goal.loop-preserved
loop-preserved c =
    line-read move_in 2 c.args.count c.loop.counter c.args.rest.now.now c.loop.lines.items c.loop.rest.now c.move_in.result c.push.new.self.items c.behind.result.now
    c.loop-test.true c.loop.invariant c.move_in.ensures c.in_ok-push.ensures.items c.behind.ensures

pub returns-clause-lines : goal.returns-clause-lines
returns-clause-lines c =
    let all : c.loop.counter ≡ c.args.count = omega arith in
    (lines-read move_in 2 c.args.count c.loop.counter c.args.rest.now.now c.loop.lines.items c.loop.rest.now all c.loop.invariant).0

pub returns-clause-left : goal.returns-clause-left
returns-clause-left c =
    let all : c.loop.counter ≡ c.args.count = omega arith in
    (lines-read move_in 2 c.args.count c.loop.counter c.args.rest.now.now c.loop.lines.items c.loop.rest.now all c.loop.invariant).1
