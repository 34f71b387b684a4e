use Rattle.std.proofs.Common.{sym, ap, ◌∙◌}
use Rattle.card_events.specs.declared.post.Place.{Place}
use Rattle.card_model.specs.Segments.{newest, segment_at}
use Rattle.card_model.specs.declared.segment.Sort.TheVariants as sort
use Rattle.card_rates.specs.Laws.{segments_on}
use Rattle.card_rates.proofs.DayLaws.{segments_of_a_day}
use Rattle.card_rates.proofs.plan.segment_at.Goals as goal

pub returns-in-Purchase : goal.returns-in-Purchase
returns-in-Purchase c history issued shared rated kept l =
    c.vintage.ensures ∙ (ap (newest sort.Purchase c.args.day) rated ∙ (segments_of_a_day.vintages history issued shared c.args.day c.args.today sort.Purchase l
    ∙ ap (λ (p : Place). segment_at p c.args.day (segments_on history issued shared c.args.today)) (sym c.in-Purchase.is)))

pub returns-in-Cash : goal.returns-in-Cash
returns-in-Cash c history issued shared rated kept l =
    c.vintage-in-Cash.ensures ∙ (ap (newest sort.Cash c.args.day) rated ∙ (segments_of_a_day.vintages history issued shared c.args.day c.args.today sort.Cash l
    ∙ ap (λ (p : Place). segment_at p c.args.day (segments_on history issued shared c.args.today)) (sym c.in-Cash.is)))

pub returns-in-Transfer : goal.returns-in-Transfer
returns-in-Transfer c history issued shared rated kept l =
    c.vintage-in-Transfer.ensures ∙ (ap (newest sort.Transfer c.args.day) rated ∙ (segments_of_a_day.vintages history issued shared c.args.day c.args.today sort.Transfer l
    ∙ ap (λ (p : Place). segment_at p c.args.day (segments_on history issued shared c.args.today)) (sym c.in-Transfer.is)))

pub returns-in-Plan : goal.returns-in-Plan
returns-in-Plan c history issued shared rated kept l =
    c.plan_segment.ensures history issued shared kept ∙ ap (λ (p : Place). segment_at p c.args.day (segments_on history issued shared c.args.today)) (sym c.in-Plan.is)
