use Rattle.std.proofs.Common.{◌≡◌, ℕ, ◌+◌, List, [], ◌∷◌, ◌++◌, drop, ap, sym, ◌∙◌, arith, append_assoc}
use Rattle.card_wire.specs.Bodies.{fields_told}
use Rattle.card_wire.specs.Joined.{joined}
use Rattle.serde_json.specs.View.{view}
use Rattle.std.specs.Option.{option_map}
use Rattle.std.specs.String.{string_bytes}
use Rattle.card_wire.proofs.SpellLemmas.{line_ends, line_more, line_whole}
use Rattle.card_wire.proofs.spelling.spell.Goals as goal

pub returns-in-None : goal.returns-in-None
returns-in-None c =
    line_ends c.loop-field.line.items _ _ c.args.fields.now c.loop-field.field-index _ c.loop-field-test.true c.loop-field.invariant
    (sym c.in_ok-told.ensures ∙ ap (option_map string_bytes) c.in-None.is)

pub loop-field-preserved : goal.loop-field-preserved
loop-field-preserved c =
    let line = c.loop-field.line.items in
    let i = c.loop-field.field-index in
    let text = string_bytes c.in-Some.text in
    let value = view c.args.object.now in
    let items : c.extend_from_slice.new.self.items ≡ line ++ 32 ∷ text =
    c.in_ok-extend_from_slice-in-Some.ensures.items ∙ ap (λ (l : List ℕ). l ++ c.as_bytes-in-Some.result.now) c.in_ok-push-in-Some.ensures.items
    ∙ ap (λ (l : List ℕ). (line ++ 32 ∷ []) ++ l) c.as_bytes-in-Some.ensures.value ∙ append_assoc line (32 ∷ []) text in
    ap (λ (l : List ℕ). l ++ joined (fields_told value (drop (i + 1) c.args.fields.now))) items
    ∙ line_more line _ text value c.args.fields.now i _ c.loop-field-test.true c.loop-field.invariant
    (sym c.in_ok-told.ensures ∙ ap (option_map string_bytes) c.in-Some.is)

pub returns : goal.returns
returns c = line_whole c.loop-field.line.items _ _ c.args.fields.now c.loop-field.field-index (omega (arith, c.loop-field-test.false)) c.loop-field.invariant
