use Rattle.std.proofs.Common.{◌≡◌, ◌-◌, ◌++◌, drop, map}
use Rattle.card_effects.specs.Ranks.{rank_on, ranks_on}
use Rattle.card_effects.proofs.ranks.ranks.Given as goal

abbrev pub invariant-loop-id : goal.invariant-loop-id
invariant-loop-id l = l.list.items ++ map (rank_on l.index l.rates l.until l.day) (drop (l.id - 2) l.rates.segments) ≡ ranks_on l.index l.rates l.until l.day
