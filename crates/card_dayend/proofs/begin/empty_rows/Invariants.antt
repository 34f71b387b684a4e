use Rattle.std.proofs.Common.{◌≡◌, replicate}
use Rattle.card_closing.specs.Rows.{no_rows}
use Rattle.card_dayend.proofs.begin.empty_rows.Given as goal

abbrev pub invariant-loop : goal.invariant-loop
invariant-loop l = l.rows.items ≡ replicate l.counter (no_rows l.first)
