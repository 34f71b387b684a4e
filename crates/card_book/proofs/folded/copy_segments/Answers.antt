use Rattle.std.proofs.Common.{◌<◌, List, [], ◌∷◌, ◌++◌, length, take, ap, sym, ◌∙◌, arith}
use Rattle.std.proofs.lemmas.List.{take_more}
use Rattle.card_model.specs.declared.segment.Segment.{Segment}
use Rattle.card_book.proofs.folded.copy_segments.Goals as goal

pub loop-id-preserved : goal.loop-id-preserved
loop-id-preserved c =
    let segments = c.args.segments.now.segments in
    let at = c.loop-id.id in
    let x = c.get.result.now in
    let low : at < length segments = omega (arith, c.loop-id-test.true, c.len-id-end.ensures.segments) in
    c.in_ok-extend_from_slice.ensures.items
    ∙ (ap (λ (l : List Segment). l ++ x ∷ []) c.loop-id.invariant ∙ (ap (λ (y : Segment). take at segments ++ y ∷ []) (c.get.ensures x) ∙ sym (take_more segments at x low)))
