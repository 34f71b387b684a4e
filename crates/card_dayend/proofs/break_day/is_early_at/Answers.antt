use Rattle.std.proofs.Common.{nat_lt, ap, ◌∙◌}
use Rattle.std.proofs.lemmas.List.{get_or_default}
use Rattle.card_model.specs.Cycles.{IssuedRow}
use Rattle.card_dayend.proofs.break_day.is_early_at.Goals as goal

pub returns : goal.returns
returns c d =
    let row = c.index-issued-place.result in
    c.is_before.ensures ∙ ap (λ (r : IssuedRow). nat_lt r.day c.args.day) (c.index-issued-place.is ∙ get_or_default c.args.issued.now c.args.place row d c.requires)
