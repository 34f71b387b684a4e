use Rattle.std.proofs.Common.{take}
use Rattle.std.specs.List.{All}
use Rattle.card_rates.specs.Settled.{HasBegun}
use Rattle.card_rates.proofs.settled.all_begun_from.Given as goal

abbrev pub invariant-loop-g : goal.invariant-loop-g
invariant-loop-g l = All (HasBegun l.from) (take l.g-index l.segments)
