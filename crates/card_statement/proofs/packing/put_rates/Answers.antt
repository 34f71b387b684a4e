use Rattle.card_statement.specs.Packing.{IsRate, rate_words}
use Rattle.card_statement.proofs.PackingSteps.{line-written}
use Rattle.card_statement.proofs.packing.put_rates.Goals as goal

pub loop-line-preserved : goal.loop-line-preserved
loop-line-preserved c =
    line-written IsRate rate_words c.args.lines.now c.loop-line.line-index c.line-item.result c.line-item.result c.args.words.now.items c.loop-line.words.items c.put_rate.new.words.items c.loop-line-test.true c.line-item.is c.loop-line.invariant c.in_ok-put_rate.ensures.written c.in_ok-put_rate.ensures.held
