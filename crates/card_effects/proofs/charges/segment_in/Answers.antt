use Rattle.std.proofs.Common.{sym, ap, ◌∙◌}
use Rattle.card_model.specs.Effects.{place_charged, place_segment}
use Rattle.card_rates.specs.Laws.{segments_on}
use Rattle.card_effects.proofs.charges.segment_in.Goals as goal

pub returns-in-Charge : goal.returns-in-Charge
returns-in-Charge c = record {
  value = λ history issued shared h.
      c.segment_at.ensures history issued shared (h.rates shared.holidays) (h.segments shared.holidays) c.requires
      ∙ ap (λ p. place_segment c.args.day (segments_on history issued shared c.args.today) (place_charged p)) (sym c.in-Charge.is);
}
