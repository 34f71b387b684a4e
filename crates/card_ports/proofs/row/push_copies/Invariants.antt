use Rattle.std.proofs.Common.{◌≡◌, ◌++◌, take}
use Rattle.card_ports.proofs.row.push_copies.Given as goal

abbrev pub invariant-loop-row : goal.invariant-loop-row
invariant-loop-row l = l.all.items ≡ l.initial.all.items ++ take l.row-index l.more
