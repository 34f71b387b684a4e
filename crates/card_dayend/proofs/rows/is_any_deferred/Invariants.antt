use Rattle.std.proofs.Common.{◌≡◌, false, take}
use Rattle.std.specs.List.{list_any}
use Rattle.card_model.specs.Segments.{is_deferred_on}
use Rattle.card_dayend.proofs.rows.is_any_deferred.Given as goal

abbrev pub invariant-loop-g : goal.invariant-loop-g
invariant-loop-g l = list_any (is_deferred_on l.day) (take l.g-index l.segments) ≡ false
