use Rattle.std.proofs.Common.{take, drop, arith}
use Rattle.std.proofs.lemmas.Simd.{length-chunk}
use Rattle.card_lines.proofs.SpaceLemmas.{first_of, none_of}
use Rattle.card_lines.proofs.fields.space_of_8.Goals as goal

pub returns-then-spaces-eq0 : goal.returns-then-spaces-eq0
returns-then-spaces-eq0 c = none_of (take 8 (drop c.args.at c.args.text.now)) 8 (length-chunk c.args.at 8 c.args.text.now c.requires) (omega arith) c.if-spaces-eq0.true

pub returns-else-spaces-eq0 : goal.returns-else-spaces-eq0
returns-else-spaces-eq0 c = first_of (take 8 (drop c.args.at c.args.text.now)) 8 (length-chunk c.args.at 8 c.args.text.now c.requires) (omega arith) c.if-spaces-eq0.false
