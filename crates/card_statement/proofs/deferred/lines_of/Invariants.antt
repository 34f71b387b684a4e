use Rattle.std.proofs.Common.{◌≡◌, take}
use Rattle.std.specs.List.{filter_map}
use Rattle.card_statement.specs.Lines.{kept_deferred_line}
use Rattle.card_statement.proofs.deferred.lines_of.Given as goal

abbrev pub invariant-loop-g : goal.invariant-loop-g
invariant-loop-g l = l.lines.items ≡ filter_map (kept_deferred_line l.day l.segments.balances l.accruals) (take l.g-index l.rated)
