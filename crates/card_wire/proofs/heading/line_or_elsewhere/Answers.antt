use Rattle.std.proofs.Common.{◌≡◌, [], ◌∷◌, ◌++◌, Option, Some, ap, ◌∙◌, subst}
use Rattle.card_wire.specs.Heads.{Parses}
use Rattle.card_wire.specs.declared.heading.HeadEnd.{HeadEnd}
use Rattle.card_wire.specs.declared.heading.HeadEnd.TheVariants as head_end
use Rattle.card_wire.proofs.PlaceLemmas.{line_starts}
use Rattle.card_wire.proofs.heading.line_or_elsewhere.Goals as goal

pub returns-in-Some-Whole : goal.returns-in-Some-Whole
returns-in-Some-Whole c = λ got spans ends parsed.
    let inner : c.in-Some-Whole.field-0 ≡ head_end.Whole c.in-Some-Whole.field-0-0 = rw c.in-Some-Whole.is at c.in-Some-Whole.field-0-is in
    let same : c.args.end ≡ Some (head_end.Whole c.in-Some-Whole.field-0-0) = c.in-Some-Whole.is ∙ ap (λ (h : HeadEnd). Some h) inner in
    line_starts got spans c.in-Some-Whole.field-0-0 ends (subst (λ (o : Option HeadEnd). Parses (got ++ 10 ∷ []) spans o) same parsed)
