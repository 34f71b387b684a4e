use Rattle.std.proofs.Common.{arith}
use Rattle.card_commands.proofs.FeedLemmas.{fed_none}
use Rattle.card_commands.proofs.PieceLemmas.{length_rest, fed_on, fell_on}
use Rattle.card_commands.proofs.progress.Progress.feed_bytes.Goals as goal

pub loop-fed-init : goal.loop-fed-init
loop-fed-init g c = record { done = fed_none _ c.args.self.now c.requires.fits; within = omega arith }

pub loop-fed-preserved : goal.loop-fed-preserved
loop-fed-preserved g c = record {
  done = fed_on _ _ _ c.args.self.now c.loop-fed.self _ c.args.bytes.now c.loop-fed.fed c.in-Ok.n c.loop-fed.invariant.done c.in-Ok.ensures.ok;
  within = omega (arith, c.loop-fed.invariant.within, c.in-Ok.ensures.within, length_rest c.args.bytes.now c.loop-fed.fed);
}

pub returns-in-Err-clause-err : goal.returns-in-Err-clause-err
returns-in-Err-clause-err g c = fell_on _ _ _ c.args.self.now c.loop-fed.self c.args.bytes.now c.loop-fed.fed c.in-Err.stop c.loop-fed.invariant.done c.in-Err.ensures.err
