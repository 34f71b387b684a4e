use Rattle.std.proofs.Common.{◌≡◌}
use Rattle.card_ports.proofs.tcp.TcpLink.send.Given as goal

abbrev pub invariant-loop : goal.invariant-loop
invariant-loop g l = l.self.faults ≡ l.fn.self.faults
