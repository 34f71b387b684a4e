use Rattle.std.proofs.Common.{ℕ, sym, ap, ◌∙◌}
use Rattle.card_model.specs.Rates.{Begun, bears_in, begun_of, rate_with}
use Rattle.card_model.specs.Segments.{SegmentTerms}
use Rattle.card_rates.proofs.OneMore.{last-then, last-else}
use Rattle.card_rates.proofs.rate.vintage_rate.Goals as goal
use Rattle.card_rates.proofs.rate.vintage_rate.Goals.{then-bears, else-bears}

abbrev begun_at : ℕ → ℕ → Begun
begun_at rate from = record { rate = rate; from = from }

pub loop-g-preserved : goal.loop-g-preserved
loop-g-preserved c =
    let e = c.bears.ensures in
    let p = bears_in c.args.day c.args.sort c.args.id in
    elim c.if-bears.branch [
      | then-bears w ↦
          w.begun-is
          ∙ (ap (λ r. begun_at r w.number_of.result) w.rate_with.ensures
          ∙ (ap (begun_at (rate_with c.args.index.now c.g-item.result)) (w.number_of.ensures.value ∙ ap (λ (v : SegmentTerms). v.effective) c.g.view_is)
          ∙ sym (ap (begun_of c.args.index.now) (last-then p c.args.segments.now c.loop-g.g-index c.g-item.result c.loop-g-test.true c.g-item.is (sym e ∙ w.if-bears.true)))))
      | else-bears w ↦
          w.begun-is
          ∙ (c.loop-g.invariant
          ∙ sym (ap (begun_of c.args.index.now) (last-else p c.args.segments.now c.loop-g.g-index c.g-item.result c.loop-g-test.true c.g-item.is (sym e ∙ w.if-bears.false))))
    ]
