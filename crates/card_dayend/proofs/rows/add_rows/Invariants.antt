use Rattle.std.proofs.Common.{◌≡◌, ◌-◌, ◌≤◌, ◌++◌, take, drop}
use Rattle.card_dayend.specs.Rows.{with_rows}
use Rattle.card_dayend.proofs.rows.add_rows.Given as goal

abbrev pub invariant-loop-id : goal.invariant-loop-id
invariant-loop-id l = record {
  begun : 2 ≤ l.id;
  rows : l.rows.items ≡ take (l.id - 2) (with_rows l.index l.days l.rates l.segments.balances l.day l.fn.rows.items) ++ drop (l.id - 2) l.fn.rows.items;
}
