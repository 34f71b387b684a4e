use Rattle.std.proofs.Common.{◌≡◌, take}
use Rattle.card_model.specs.Rates.{capped}
use Rattle.card_rates.proofs.rate.least_of.Given as goal

abbrev pub invariant-loop-cap : goal.invariant-loop-cap
invariant-loop-cap l = l.least ≡ capped (take l.cap-index l.caps) l.sort l.day l.fn.begun
