use Rattle.std.proofs.Common.{◌≡◌, take}
use Rattle.card_model.specs.Rates.{bears_in, begun_of}
use Rattle.card_model.specs.Segments.{last_that}
use Rattle.card_rates.proofs.rate.vintage_rate.Given as goal

abbrev pub invariant-loop-g : goal.invariant-loop-g
invariant-loop-g l = l.begun ≡ begun_of l.index (last_that (bears_in l.day l.sort l.id) (take l.g-index l.segments))
