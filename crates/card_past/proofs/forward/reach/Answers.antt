use Rattle.card_past.proofs.Parts.{begins-same}
use Rattle.card_past.proofs.forward.reach.Goals as goal

pub ends_of-ends-requires : goal.ends_of-ends-requires
ends_of-ends-requires g c = c.requires.folded.folding.marks.count

pub returns-in-Err-clause-err : goal.returns-in-Err-clause-err
returns-in-Err-clause-err g c = begins-same c.ends_of-ends.result c.args.past.now c.folded_on.new.past c.cut.new.past c.ends_of-ends.ensures c.folded_on.ensures.begins c.cut.ensures
