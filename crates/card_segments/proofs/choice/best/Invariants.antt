use Rattle.std.proofs.Common.{drop}
use Rattle.card_segments.specs.Rules.{IsPlaceOf, chosen}
use Rattle.card_segments.proofs.choice.best.Given as goal

abbrev pub invariant-loop-i : goal.invariant-loop-i
invariant-loop-i l = IsPlaceOf l.holdings (chosen l.choice (drop l.i l.holdings)) l.found
