use Rattle.std.proofs.Common.{◌≡◌, map, take}
use Rattle.card_text.specs.Repayment.{owing_of}
use Rattle.card_text.proofs.repayment.owing_at.Given as goal

abbrev pub invariant-loop-place : goal.invariant-loop-place
invariant-loop-place l = l.owing.items ≡ map (owing_of l.lines) (take l.place l.amounts)
