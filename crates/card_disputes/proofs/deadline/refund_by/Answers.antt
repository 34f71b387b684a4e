use Rattle.std.proofs.Common.{◌≡◌, suc, ◌+◌, ◌-◌, sym, ap, ◌∙◌, arith}
use Rattle.card_disputes.proofs.DeadlineLemmas.{no-more, one-more}
use Rattle.card_model.specs.Deadlines.{business_day_after}
use Rattle.card_disputes.proofs.deadline.refund_by.Goals as goal

pub loop-preserved : goal.loop-preserved
loop-preserved c =
    let holidays = c.args.calendar.now in
    let fewer : suc (7 - (c.loop.counter + 1)) ≡ 7 - c.loop.counter = omega (arith, c.loop-test.true) in
    let bound = c.loop.invariant.1 in
    let near = c.next_business-last.ensures.near in (
      ap (business_day_after holidays (7 - (c.loop.counter + 1))) c.next_business-last.ensures.value
          ∙ sym (one-more holidays (7 - (c.loop.counter + 1)) c.loop.last)
          ∙ ap (λ n. business_day_after holidays n c.loop.last) fewer
          ∙ c.loop.invariant.0,
      omega (arith, bound, near),
    )

pub returns : goal.returns
returns c =
    let holidays = c.args.calendar.now in
    let none : 7 - c.loop.counter ≡ 0 = omega (arith, c.loop-test.false) in
    sym (no-more holidays c.loop.last) ∙ ap (λ n. business_day_after holidays n c.loop.last) (sym none) ∙ c.loop.invariant.0
