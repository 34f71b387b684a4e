use Rattle.std.proofs.Common.{take, arith}
use Rattle.std.proofs.lemmas.List.{length-take-le}
use Rattle.card_lines.proofs.SpaceLemmas.{first_of}
use Rattle.card_lines.proofs.fields.space_of_16.Goals as goal

pub returns-else-spaces-eq0 : goal.returns-else-spaces-eq0
returns-else-spaces-eq0 c = first_of (take 16 c.args.text.now) 16 (length-take-le 16 c.args.text.now (omega arith)) (omega arith) c.if-spaces-eq0.false
