use Rattle.std.proofs.Common.{◌≡◌, ◌-◌, ◌++◌, ◌≤◌, map, take}
use Rattle.std.specs.Prelude.{is_some, vec_capacity}
use Rattle.std.specs.List.{filter}
use Rattle.card_book.specs.Marks.{accruing_of}
use Rattle.card_model.specs.Rates.{accrual_rate}
use Rattle.card_book.proofs.marks.push_accruing.Given as goal

abbrev pub invariant-loop-id : goal.invariant-loop-id
invariant-loop-id l = record {
  items : l.list.items
      ≡ l.fn.list.items ++ map (accruing_of l.cycle l.state.accruals.items) (filter (λ t. is_some (accrual_rate l.day t)) (take (l.id - 2) l.state.rates.segments));
  capacity : vec_capacity l.fn.list ≤ vec_capacity l.list;
}
