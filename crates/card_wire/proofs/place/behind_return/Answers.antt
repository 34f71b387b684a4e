use Rattle.card_wire.proofs.PlaceLemmas.{behind_crlf}
use Rattle.card_wire.proofs.place.behind_return.Goals as goal

pub returns-then-byte-eq10 : goal.returns-then-byte-eq10
returns-then-byte-eq10 c = λ got at. behind_crlf got c.args.byte c.if-byte-eq10.true at
