use Rattle.std.proofs.Common.{refl}
use Rattle.card_commands.proofs.FeedLemmas.{source_fell, fell_reading}
use Rattle.card_commands.proofs.run.read_piece.Goals as goal

pub returns-in-Err-clause-err : goal.returns-in-Err-clause-err
returns-in-Err-clause-err g c = source_fell _ _ c.args.progress.now c.in-Err.ensures.bytes c.in-Err.ensures.cause refl refl

pub returns-in-Err-feed_bytes-clause-err : goal.returns-in-Err-feed_bytes-clause-err
returns-in-Err-feed_bytes-clause-err g c = fell_reading _ _ c.args.progress.now _ c.in-Err-feed_bytes.stop c.in-Err-feed_bytes.ensures.err c.in-Ok.ensures.unfailed c.in-Ok.ensures.bytes.0
