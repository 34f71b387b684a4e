use Rattle.std.proofs.Common.{◌<◌, take, map, length, ◌∙◌, arith}
use Rattle.std.proofs.lemmas.List.{length-map}
use Rattle.httparse.specs.Spans.{header_bytes}
use Rattle.card_wire.proofs.NamedLemmas.{count_more, count_same, same_named}
use Rattle.card_wire.proofs.head.Head.count_named.Goals as goal
use Rattle.card_wire.proofs.head.Head.count_named.Goals.{then-is_same_name, else-is_same_name}

pub loop-field-preserved : goal.loop-field-preserved
loop-field-preserved c =
    let bytes = c.self.inside.bytes.now in
    let spans = take c.self.inside.spans.headers c.self.inside.fields.now in
    let i = c.loop-field.field-index in
    let long = length-map spans (header_bytes bytes) in
    let low : i < length (map (header_bytes bytes) spans) = omega (arith, c.loop-field-test.true, long) in
    let named = same_named c.args.name.now bytes c.of.result.now spans i _ c.is_same_name.result c.of.ensures c.is_same_name.ensures in
    elim c.if-is_same_name.branch [
      | then-is_same_name w ↦ record {
        few = omega (arith, w.count-is, c.loop-field.invariant.few);
        counted = w.count-is ∙ count_more c.args.name.now (map (header_bytes bytes) spans) i c.loop-field.count _ low c.loop-field.invariant.counted (named ∙ w.if-is_same_name.true);
      }
      | else-is_same_name w ↦ record {
        few = omega (arith, w.count-is, c.loop-field.invariant.few);
        counted = w.count-is ∙ count_same c.args.name.now (map (header_bytes bytes) spans) i c.loop-field.count _ low c.loop-field.invariant.counted (named ∙ w.if-is_same_name.false);
      }
    ]
