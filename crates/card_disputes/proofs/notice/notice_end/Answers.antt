use Rattle.std.proofs.Common.{◌+◌, ◌<◌, ◌≤◌, length, sym, ◌∙◌, ap, arith}
use Rattle.std.specs.Option.{option_map}
use Rattle.card_disputes.proofs.Scans.{find-ends, find-hit, find-skip}
use Rattle.card_events.specs.declared.kept.Kept.{Kept}
use Rattle.card_model.specs.Deadlines.{bills_from}
use Rattle.card_disputes.proofs.notice.notice_end.Goals as goal

pub returns-then-bills_at : goal.returns-then-bills_at
returns-then-bills_at c =
    c.notice_end_of.ensures
    ∙ ap (option_map (λ (k : Kept). k.accepted + 60)) (sym (c.loop-i.invariant ∙ find-hit (λ (k : Kept). bills_from c.args.cycle k.post) c.loop-i.i c.args.posts.now.history (sym c.bills_at.ensures ∙ c.if-bills_at.true)))

pub loop-i-preserved : goal.loop-i-preserved
loop-i-preserved c =
    let low : c.loop-i.i < length c.args.posts.now.history = omega (arith, c.loop-i-test.true, c.len-i-end.ensures.value) in
    c.loop-i.invariant ∙ find-skip (λ (k : Kept). bills_from c.args.cycle k.post) c.loop-i.i c.args.posts.now.history low (sym c.bills_at.ensures ∙ c.if-bills_at.false)

pub returns : goal.returns
returns c =
    let past : length c.args.posts.now.history ≤ c.loop-i.i = omega (arith, c.loop-i-test.false, c.len-i-end.ensures.value) in
    ap (option_map (λ (k : Kept). k.accepted + 60)) (sym (c.loop-i.invariant ∙ find-ends (λ (k : Kept). bills_from c.args.cycle k.post) c.loop-i.i c.args.posts.now.history past))
