use Rattle.std.proofs.Common.{◌==◌, sym}
use Rattle.std.proofs.lemmas.List.Sums.{position_or_len_is}
use Rattle.std.proofs.lemmas.Bool.{eq-eqb}
use Rattle.std.proofs.Common.{arith}
use Rattle.card_lines.proofs.fields.space_by_byte.Goals as goal

pub returns-then-b-eq32-clause-value : goal.returns-then-b-eq32-clause-value
returns-then-b-eq32-clause-value c =
    sym (position_or_len_is (λ b. b == 32) c.args.text.now c.loop-i.i 0 (omega arith) c.loop-i.invariant (λ h. eq-eqb _ _ c.if-b-eq32.true))

pub returns-clause-value : goal.returns-clause-value
returns-clause-value c =
    sym (position_or_len_is (λ b. b == 32) c.args.text.now _ 0 (omega arith) (λ k h. c.loop-i.invariant k (omega arith)) (λ h. absurd (omega arith)))
