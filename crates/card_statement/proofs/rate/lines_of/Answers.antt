use Rattle.std.proofs.Common.{◌++◌}
use Rattle.card_statement.specs.Lines.{kept_rate_line}
use Rattle.card_statement.proofs.LineSteps.{line-pushed}
use Rattle.card_statement.proofs.rate.lines_of.Goals as goal

pub loop-g-preserved : goal.loop-g-preserved
loop-g-preserved c earlier behind =
    line-pushed (kept_rate_line c.args.index.now c.args.rates.now c.args.cycle.now (earlier ++ c.args.entries.now)) c.args.rated.now c.loop-g.g-index c.g-item.result c.loop-g.lines.items c.add_line.new.lines.items
    c.loop-g-test.true c.g-item.is (c.loop-g.invariant earlier behind) (c.in_ok-add_line.ensures earlier behind)
