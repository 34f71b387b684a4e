use Rattle.std.proofs.Common.{◌<◌, ◌≤◌, List, None, length, ap, sym, ◌∙◌, arith}
use Rattle.card_events.specs.declared.kept.Kept.{Kept}
use Rattle.card_reasons.proofs.NoticeLemmas.{ended, next, pending_with}
use Rattle.card_reasons.proofs.notice.pending_day.Goals as goal

pub loop-i-preserved : goal.loop-i-preserved
loop-i-preserved c =
    let low : c.loop-i.i < length c.args.posts.now.history = omega (arith, c.loop-i-test.true, c.len-i-end.ensures.value) in
    c.loop-i.invariant
    ∙ next c.args.category c.args.day c.loop-i.pending c.effective_after-effective.result c.later_of-pending.result c.loop-i.i c.args.posts.now.history low c.effective_after-effective.ensures c.later_of-pending.ensures

pub returns : goal.returns
returns c now same =
    let past : length c.args.posts.now.history ≤ c.loop-i.i = omega (arith, c.loop-i-test.false, c.len-i-end.ensures.value) in
    sym (ap (λ (h : List Kept). pending_with c.args.category c.args.day None h) same ∙ c.loop-i.invariant ∙ ended c.args.category c.args.day c.loop-i.pending c.loop-i.i c.args.posts.now.history past)
