use Rattle.std.proofs.Common.{◌≡◌, ◌++◌, drop, map, take}
use Rattle.card_closing.specs.Rows.{Rows, no_rows}
use Rattle.card_dayend.proofs.closing.begin_all.Given as goal

abbrev pub invariant-loop-i : goal.invariant-loop-i
invariant-loop-i l = l.rows.items ≡ map (λ (r : Rows). no_rows l.first) (take l.i l.fn.rows.items) ++ drop l.i l.fn.rows.items
