use Rattle.std.proofs.Common.{◌≡◌, take}
use Rattle.card_model.specs.Segments.{newest}
use Rattle.card_rates.proofs.rate.newest_of.Given as goal

abbrev pub invariant-loop-g : goal.invariant-loop-g
invariant-loop-g l = l.id ≡ newest l.sort l.day (take l.g-index l.segments)
