use Rattle.std.proofs.Common.{◌<◌, ◌≤◌, length, sym, ◌∙◌, arith}
use Rattle.card_disputes.specs.Increases.{is_increase_by}
use Rattle.card_disputes.proofs.Scans.{any-ends, any-hit, any-skip}
use Rattle.card_disputes.proofs.increase.has_increase_by.Goals as goal

pub returns-then-is_increase_at : goal.returns-then-is_increase_at
returns-then-is_increase_at c = sym (c.loop-i.invariant ∙ any-hit (is_increase_by c.args.day) c.loop-i.i c.args.posts.now.history (sym c.is_increase_at.ensures ∙ c.if-is_increase_at.true))

pub loop-i-preserved : goal.loop-i-preserved
loop-i-preserved c =
    let low : c.loop-i.i < length c.args.posts.now.history = omega (arith, c.loop-i-test.true, c.len-i-end.ensures.value) in
    c.loop-i.invariant ∙ any-skip (is_increase_by c.args.day) c.loop-i.i c.args.posts.now.history low (sym c.is_increase_at.ensures ∙ c.if-is_increase_at.false)

pub returns : goal.returns
returns c =
    let past : length c.args.posts.now.history ≤ c.loop-i.i = omega (arith, c.loop-i-test.false, c.len-i-end.ensures.value) in
    sym (c.loop-i.invariant ∙ any-ends (is_increase_by c.args.day) c.loop-i.i c.args.posts.now.history past)
