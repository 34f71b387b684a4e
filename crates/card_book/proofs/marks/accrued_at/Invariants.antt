use Rattle.std.proofs.Common.{◌≡◌, take, None}
use Rattle.std.specs.Prelude.{◌==◌, ◌&&◌}
use Rattle.std.specs.List.{find}
use Rattle.card_book.proofs.marks.accrued_at.Given as goal

abbrev pub invariant-loop-accruing : goal.invariant-loop-accruing
invariant-loop-accruing l = find (λ a. (a.cycle == l.cycle) && (a.segment == l.segment)) (take l.accruing-index l.list) ≡ None
