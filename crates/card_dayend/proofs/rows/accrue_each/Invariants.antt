use Rattle.std.proofs.Common.{◌≡◌, ◌-◌, ◌≤◌, ◌++◌, take, drop}
use Rattle.card_dayend.specs.Rows.{with_accruals}
use Rattle.card_dayend.proofs.rows.accrue_each.Given as goal

abbrev pub invariant-loop-id : goal.invariant-loop-id
invariant-loop-id l = record {
  begun : 2 ≤ l.id;
  accruals : l.accruals.items ≡ take (l.id - 2) (with_accruals l.days l.rates l.segments.balances l.day l.fn.accruals.items) ++ drop (l.id - 2) l.fn.accruals.items;
}
