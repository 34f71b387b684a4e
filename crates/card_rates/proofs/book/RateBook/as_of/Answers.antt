use Rattle.std.proofs.Common.{ap, ◌∙◌}
use Rattle.card_model.specs.Cuts.{penalties_at}
use Rattle.card_rates.proofs.Settling.{kept-earlier}
use Rattle.card_rates.proofs.book.RateBook.as_of.Goals as goal

pub invariant_of-result : goal.invariant_of-result
invariant_of-result c =
    let inside = c.self.inside in
    kept-earlier c.args.day inside.settled inside.may_accrue inside.segments.items c.in_ok-from_slice.field-0.items inside.caps.items c.in_ok-from_slice-2.field-0.items inside.penalties.items c.in_ok-penalties_at.field-0.items
    c.self.invariant (c.in_ok-from_slice.ensures.items ∙ c.deref.ensures.value) (c.in_ok-from_slice-2.ensures.items ∙ c.deref-2.ensures.value)
    (c.in_ok-penalties_at.ensures ∙ ap (penalties_at c.args.day) c.deref-3.ensures.value)
