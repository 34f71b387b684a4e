use Rattle.std.proofs.Common.{◌≤◌, sym, ◌∙◌, arith}
use Rattle.std.specs.List.{sum_by}
use Rattle.std.proofs.lemmas.Bool.Decides.{nat_tests}
use Rattle.std.proofs.lemmas.List.Sums.{sum_by-take-le}
use Rattle.card_fees.specs.Counting.{read_counts}
use Rattle.card_fees.proofs.SlotSums.{enough, read-below, read-front}
use Rattle.card_fees.proofs.counting.sum.Goals as goal

pub returns-then-is_enough-clause-value : goal.returns-then-is_enough-clause-value
returns-then-is_enough-clause-value c =
    let posts = c.args.posts.now in
    let part = sum_by-take-le (read_counts c.args.until.now posts.history posts.corrected) c.args.slots.now c.loop-slot.slot-index in
    enough c.args.limit c.loop-slot.total (sum_by (read_counts c.args.until.now posts.history posts.corrected) c.args.slots.now) (sym c.is_enough.ensures ∙ c.if-is_enough.true) (omega (arith, part, c.loop-slot.invariant.0))

pub returns-then-is_enough-clause-bound : goal.returns-then-is_enough-clause-bound
returns-then-is_enough-clause-bound c =
    let is = sym c.is_enough.ensures ∙ c.if-is_enough.true in
    let low : c.args.limit ≤ c.loop-slot.total = grind (arith, nat_tests, is) in
    omega (arith, low, c.loop-slot.invariant.1, c.loop-slot-test.true, c.requires.bounded.count)

pub returns-then-not-reaches-clause-value : goal.returns-then-not-reaches-clause-value
returns-then-not-reaches-clause-value c =
    let posts = c.args.posts.now in
    let front = read-front c.args.until.now posts.history posts.corrected c.args.slots.now c.loop-slot.slot-index c.slot-item.result c.requires.order c.slot-item.is (sym c.reaches.ensures ∙ c.if-not-reaches.true) in
    read-below c.args.limit c.loop-slot.total (sum_by (read_counts c.args.until.now posts.history posts.corrected) c.args.slots.now) (sym c.is_enough.ensures ∙ c.if-is_enough.false) (c.loop-slot.invariant.0 ∙ front)

pub returns-then-not-reaches-clause-bound : goal.returns-then-not-reaches-clause-bound
returns-then-not-reaches-clause-bound c = omega (arith, c.loop-slot.invariant.1, c.loop-slot-test.true, c.requires.bounded.count)
