use Rattle.std.proofs.Common.{ℕ, ◌<◌, List, [], Some, take, map, length, ap, sym, ◌∙◌, arith}
use Rattle.std.specs.List.{slice_get}
use Rattle.std.proofs.Math.ListN.{get_or-map}
use Rattle.std.proofs.lemmas.List.{length-map}
use Rattle.httparse.specs.Spans.{header_bytes}
use Rattle.card_wire.specs.Framing.{values_named}
use Rattle.card_wire.specs.Heads.{HeadParts}
use Rattle.card_wire.proofs.NamedLemmas.{first_is, same_named, values_same}
use Rattle.card_wire.proofs.head.Head.first_named.Goals as goal

pub returns-then-is_same_name : goal.returns-then-is_same_name
returns-then-is_same_name c =
    let bytes = c.self.inside.bytes.now in
    let spans = take c.self.inside.spans.headers c.self.inside.fields.now in
    let i = c.loop-field.field-index in
    let long = length-map spans (header_bytes bytes) in
    let low : i < length (map (header_bytes bytes) spans) = omega (arith, c.loop-field-test.true, long) in
    let named = same_named c.args.name.now bytes c.of.result.now spans i _ c.is_same_name.result c.of.ensures c.is_same_name.ensures in
    let first = first_is c.args.name.now (map (header_bytes bytes) spans) i _ low c.loop-field.invariant (named ∙ c.if-is_same_name.true) in
    ap Some (c.of-then-is_same_name.ensures ∙ sym (ap (λ (p : List ℕ × List ℕ). p.1) (get_or-map (header_bytes bytes) spans i _))) ∙ sym first
    ∙ ap (λ (h : HeadParts). slice_get (values_named c.args.name.now h.fields) 0) c.self.view_is

pub loop-field-preserved : goal.loop-field-preserved
loop-field-preserved c =
    let bytes = c.self.inside.bytes.now in
    let spans = take c.self.inside.spans.headers c.self.inside.fields.now in
    let i = c.loop-field.field-index in
    let long = length-map spans (header_bytes bytes) in
    let low : i < length (map (header_bytes bytes) spans) = omega (arith, c.loop-field-test.true, long) in
    let named = same_named c.args.name.now bytes c.of.result.now spans i _ c.is_same_name.result c.of.ensures c.is_same_name.ensures in
    values_same c.args.name.now (map (header_bytes bytes) spans) i _ [] low c.loop-field.invariant (named ∙ c.if-is_same_name.false)
