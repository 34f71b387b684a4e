use Rattle.std.proofs.Common.{◌+◌, ◌<◌, ◌≤◌, length, sym, ◌∙◌, arith}
use Rattle.card_model.specs.Refusals.{bills}
use Rattle.card_reasons.proofs.SearchLemmas.{ends, hit, skip}
use Rattle.card_reasons.proofs.search.bill_behind.Goals as goal

pub returns-then-bills_at : goal.returns-then-bills_at
returns-then-bills_at c = sym (c.loop-i.invariant ∙ hit (bills c.args.cycle) c.loop-i.i c.args.posts.now.history (sym c.bills_at.ensures ∙ c.if-bills_at.true))

pub loop-i-preserved : goal.loop-i-preserved
loop-i-preserved c =
    let low : c.loop-i.i < length c.args.posts.now.history = omega (arith, c.loop-i-test.true, c.len-i-end.ensures.value) in
    c.loop-i.invariant ∙ skip (bills c.args.cycle) c.loop-i.i c.args.posts.now.history low (sym c.bills_at.ensures ∙ c.if-bills_at.false)

pub returns : goal.returns
returns c =
    let past : length c.args.posts.now.history ≤ c.loop-i.i = omega (arith, c.loop-i-test.false, c.len-i-end.ensures.value) in
    sym (c.loop-i.invariant ∙ ends (bills c.args.cycle) (c.loop-i.i + 1) c.loop-i.i c.args.posts.now.history past)
