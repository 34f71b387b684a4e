use Rattle.std.proofs.Common.{◌≡◌, arith}
use Rattle.card_statement.specs.Packing.{deferred_in}
use Rattle.card_statement.proofs.PackingSteps.{line-read, lines-read}
use Rattle.card_statement.proofs.unpacking.take_deferreds.Goals as goal

pub loop-preserved : goal.loop-preserved
loop-preserved c =
    line-read deferred_in 3 c.args.count c.loop.counter c.args.rest.now.now c.loop.lines.items c.loop.rest.now c.deferred_in.result c.push.new.self.items c.behind.result.now
    c.loop-test.true c.loop.invariant c.deferred_in.ensures c.in_ok-push.ensures.items c.behind.ensures

pub returns-clause-lines : goal.returns-clause-lines
returns-clause-lines c =
    let all : c.loop.counter ≡ c.args.count = omega arith in
    (lines-read deferred_in 3 c.args.count c.loop.counter c.args.rest.now.now c.loop.lines.items c.loop.rest.now all c.loop.invariant).0

pub returns-clause-left : goal.returns-clause-left
returns-clause-left c =
    let all : c.loop.counter ≡ c.args.count = omega arith in
    (lines-read deferred_in 3 c.args.count c.loop.counter c.args.rest.now.now c.loop.lines.items c.loop.rest.now all c.loop.invariant).1
