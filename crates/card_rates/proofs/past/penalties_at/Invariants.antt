use Rattle.std.proofs.Common.{◌≡◌, take}
use Rattle.card_model.specs.Cuts.{penalties_at}
use Rattle.card_rates.proofs.past.penalties_at.Given as goal

abbrev pub invariant-loop-penalty : goal.invariant-loop-penalty
invariant-loop-penalty l = l.list.items ≡ penalties_at l.day (take l.penalty-index l.penalties)
