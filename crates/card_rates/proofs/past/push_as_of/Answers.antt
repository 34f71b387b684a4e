use Rattle.std.proofs.Common.{◌++◌, [], ◌∷◌, List, append-nil, sym, ap, ◌∙◌}
use Rattle.card_model.specs.declared.segment.Interval.{Interval}
use Rattle.card_rates.proofs.Earlier.{earlier-known, earlier-unknown}
use Rattle.card_rates.proofs.past.push_as_of.Goals as goal

pub returns-in_ok-extend_from_slice : goal.returns-in_ok-extend_from_slice
returns-in_ok-extend_from_slice c =
    let list = c.args.list.now.items in
    let known = earlier-known c.args.day c.args.penalty.now (sym c.is_known.ensures ∙ c.if-is_known.true) in
    c.in_ok-extend_from_slice.ensures.items ∙ ap (λ (l : List Interval). list ++ l) (ap (λ (i : Interval). i ∷ []) c.as_of.ensures ∙ sym known)

pub returns-else-is_known : goal.returns-else-is_known
returns-else-is_known c =
    let list = c.args.list.now.items in
    let unknown = earlier-unknown c.args.day c.args.penalty.now (sym c.is_known.ensures ∙ c.if-is_known.false) in
    sym (ap (λ (l : List Interval). list ++ l) unknown ∙ append-nil list)
