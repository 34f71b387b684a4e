use Rattle.std.proofs.Common.{ℕ, List, ap, ◌∙◌, subst, arith}
use Rattle.std.proofs.lemmas.List.{take_all}
use Rattle.card_segments.specs.Parts.{parts_sum}
use Rattle.card_effects.specs.Repaid.{AreRepaid}
use Rattle.card_effects.proofs.Carried.{next-part, part-within}
use Rattle.card_effects.proofs.rows.repay_parts.Goals as goal

pub repay_part-requires-clause-limit : goal.repay_part-requires-clause-limit
repay_part-requires-clause-limit c =
    let items = c.items-items.result.now in
    let one = part-within items c.loop-i.i (0, 0) (omega arith) in
    let all = ap parts_sum c.items-items.ensures.value in
    omega (arith, one, all, c.requires.limit)

pub loop-i-preserved : goal.loop-i-preserved
loop-i-preserved c = record {
  repaid = next-part c.args.slot.now.day c.args.slot.now.number c.items-items.result.now c.loop-i.i (0, 0) c.args.rows.now c.loop-i.rows c.repay_part.new.rows (omega arith) c.loop-i.invariant.repaid c.in_ok-repay_part.ensures.repaid;
  others = c.in_ok-repay_part.ensures.others ∙ c.loop-i.invariant.others;
  same = omega (arith, c.repay_part.ensures.len, c.loop-i.invariant.same);
}

pub returns-clause-repaid : goal.returns-clause-repaid
returns-clause-repaid c =
    let items = c.items-items.result.now in
    subst (λ (ps : List (ℕ × ℕ)). AreRepaid c.args.slot.now.day c.args.slot.now.number ps c.args.rows.now c.loop-i.rows) (take_all c.loop-i.i items (omega (arith, c.loop-i-test.false)) ∙ c.items-items.ensures.value) c.loop-i.invariant.repaid
