use Rattle.std.proofs.Common.{◌≡◌, take}
use Rattle.std.specs.List.{fold}
use Rattle.card_model.specs.Rates.{with_penalty, starts}
use Rattle.card_rates.proofs.rate.raised.Given as goal

abbrev pub invariant-loop-penalty : goal.invariant-loop-penalty
invariant-loop-penalty l = l.rate ≡ fold (with_penalty l.caps l.penalty_rate l.sort l.day) l.fn.base (starts l.day (take l.penalty-index l.penalties))
