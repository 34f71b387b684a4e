use Rattle.std.proofs.Common.{◌&&◌, leb, sym, ap, ◌∙◌}
use Rattle.card_model.specs.Segments.{SegmentTerms, id_of, is_sort}
use Rattle.card_rates.proofs.OneMore.{last-then, last-else}
use Rattle.card_rates.proofs.rate.newest_of.Goals as goal
use Rattle.card_rates.proofs.rate.newest_of.Goals.{then-is_begun, else-is_begun}

pub loop-g-preserved : goal.loop-g-preserved
loop-g-preserved c =
    let e = c.is_begun.ensures in
    let p = λ (g : SegmentTerms). is_sort c.args.sort g.sort && leb g.begins c.args.day in
    elim c.if-is_begun.branch [
      | then-is_begun w ↦
          w.id-is ∙ (ap (λ (g : SegmentTerms). g.id) c.g.view_is
          ∙ sym (ap id_of (last-then p c.args.segments.now c.loop-g.g-index c.g-item.result c.loop-g-test.true c.g-item.is (sym e ∙ w.if-is_begun.true))))
      | else-is_begun w ↦
          w.id-is ∙ (c.loop-g.invariant
          ∙ sym (ap id_of (last-else p c.args.segments.now c.loop-g.g-index c.g-item.result c.loop-g-test.true c.g-item.is (sym e ∙ w.if-is_begun.false))))
    ]
