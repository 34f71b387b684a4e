use Rattle.card_commands.proofs.FeedLemmas.{fell_first}
use Rattle.card_commands.proofs.PieceLemmas.{fed_all}
use Rattle.card_commands.proofs.progress.Progress.feed_line.Goals as goal

pub returns-in-Ok-keep-clause-ok : goal.returns-in-Ok-keep-clause-ok
returns-in-Ok-keep-clause-ok g c = fed_all _ c.args.self.now _ c.args.bytes.now c.in-None.ensures c.in-Ok-keep.ensures c.requires.fits

pub returns-in-Err-keep-clause-err : goal.returns-in-Err-keep-clause-err
returns-in-Err-keep-clause-err g c = fell_first _ c.args.self.now c.args.bytes.now
