use Rattle.card_commands.proofs.ImportLemmas.{fell_later}
use Rattle.card_commands.proofs.import.read_all.Goals as goal

pub returns-in-Err-clause-err : goal.returns-in-Err-clause-err
returns-in-Err-clause-err g c = fell_later _ _ _ c.loop-bytes.bytes.items c.in-Err.stop c.loop-bytes.invariant.taken c.in-Err.ensures.err
