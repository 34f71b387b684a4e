use Rattle.std.proofs.Common.{◌≡◌, take}
use Rattle.card_statement.specs.Lines.{kept_amounts}
use Rattle.card_statement.proofs.deferred.amounts_of.Given as goal

abbrev pub invariant-loop-g : goal.invariant-loop-g
invariant-loop-g l = l.amounts ≡ kept_amounts l.segments.balances (take l.g-index l.rated)
