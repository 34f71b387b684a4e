use Rattle.std.proofs.Common.{◌<◌, length, sym, ◌∙◌, arith}
use Rattle.card_reasons.proofs.PlanLemmas.{count_no, count_yes}
use Rattle.card_reasons.proofs.plan.added_count.Goals as goal
use Rattle.card_reasons.proofs.plan.added_count.Goals.{then-adds_at, else-adds_at}
use Rattle.card_events.specs.History.{adds_segment}

pub loop-i-preserved : goal.loop-i-preserved
loop-i-preserved c =
    let posts = c.args.posts.now.history in
    let low : c.loop-i.i < length posts = omega (arith, c.loop-i-test.true, c.len-i-end.ensures.value) in
    elim c.if-adds_at.branch [
      | then-adds_at w ↦
          let one = count_yes (λ k. adds_segment k.post) c.loop-i.i posts low (sym c.adds_at.ensures ∙ w.if-adds_at.true) in
          record {
            counted = omega (arith, one, w.count-is, c.loop-i.invariant.counted);
            few = omega (arith, w.count-is, c.loop-i.invariant.few);
          }
      | else-adds_at w ↦
          let none = count_no (λ k. adds_segment k.post) c.loop-i.i posts low (sym c.adds_at.ensures ∙ w.if-adds_at.false) in
          record {
            counted = omega (arith, none, w.count-is, c.loop-i.invariant.counted);
            few = omega (arith, w.count-is, c.loop-i.invariant.few);
          }
    ]
