use Rattle.std.proofs.Common.{◌≡◌, arith}
use Rattle.card_statement.specs.Packing.{amount_in}
use Rattle.card_statement.proofs.PackingSteps.{line-read, lines-read}
use Rattle.card_statement.proofs.unpacking.take_amounts.Goals as goal

pub loop-preserved : goal.loop-preserved
loop-preserved c =
    line-read amount_in 2 c.args.count c.loop.counter c.args.rest.now.now c.loop.amounts c.loop.rest.now c.amount_in-segment.result c.push.new.self c.behind.result.now
    c.loop-test.true c.loop.invariant c.amount_in-segment.ensures c.in_ok-push.ensures.ok c.behind.ensures

pub returns : goal.returns
returns c =
    let all : c.loop.counter ≡ c.args.count = omega arith in
    (lines-read amount_in 2 c.args.count c.loop.counter c.args.rest.now.now c.loop.amounts c.loop.rest.now all c.loop.invariant).0
