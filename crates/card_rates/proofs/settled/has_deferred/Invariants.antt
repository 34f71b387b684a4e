use Rattle.std.proofs.Common.{◌≡◌, false, take}
use Rattle.card_rates.specs.Settled.{has_deferred}
use Rattle.card_rates.proofs.settled.has_deferred.Given as goal

abbrev pub invariant-loop-g : goal.invariant-loop-g
invariant-loop-g l = has_deferred (take l.g-index l.segments) ≡ false
