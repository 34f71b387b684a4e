use Rattle.std.proofs.Common.{◌≡◌, ◌≤◌, nat_le, take, length}
use Rattle.std.specs.List.{filter}
use Rattle.card_past.proofs.past.accrued_up_to.Given as goal

abbrev pub invariant-loop-accruing : goal.invariant-loop-accruing
invariant-loop-accruing l = record {
  few : l.count ≤ l.accruing-index;
  value : l.count ≡ length (filter (λ a. nat_le a.cycle l.cycle) (take l.accruing-index l.accrued));
}
