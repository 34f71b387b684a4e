use Rattle.std.proofs.Common.{Some, ap, sym, ◌∙◌}
use Rattle.std.proofs.lemmas.Bool.{and_from}
use Rattle.card_lines.proofs.NumberLemmas.{some_of, number_is, twelve}
use Rattle.card_lines.proofs.forms.read_number.Goals as goal

pub returns-in-Some : goal.returns-in-Some
returns-in-Some c =
    let form = c.if-not-has_decimal_form.false in
    let digits = c.in-Some.ensures in
    let is = sym c.has_decimal_form.ensures.decides ∙ and_from _ _ form digits.0 in
    let fits = twelve c.args.text.now _ digits.2 (c.has_decimal_form.ensures.few form) in
    some_of _ _ _ c.new.ensures fits ∙ ap Some digits.1 ∙ sym (number_is _ is)
