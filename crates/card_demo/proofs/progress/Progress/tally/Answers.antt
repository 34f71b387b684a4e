use Rattle.std.proofs.Common.{ap}
use Rattle.card_demo.specs.Progress.{Progress, Tally}
use Rattle.card_demo.proofs.progress.Progress.tally.Goals as goal

abbrev tally_in : Progress → Tally
tally_in p = record { count = p.count; refused = p.refused }

pub returns : goal.returns
returns c = ap tally_in c.self.view_is
