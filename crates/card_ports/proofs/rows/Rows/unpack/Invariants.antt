use Rattle.std.proofs.Common.{◌≡◌, take}
use Rattle.card_ports.proofs.rows.Rows.unpack.Given as goal

abbrev pub invariant-loop-at : goal.invariant-loop-at
invariant-loop-at l = l.all.items ≡ take l.at l.self
