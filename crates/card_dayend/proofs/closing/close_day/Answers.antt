use Rattle.std.proofs.Common.{sym, ap, ◌∙◌}
use Rattle.std.proofs.lemmas.Bool.{eqb-false}
use Rattle.card_events.specs.Civil.{day_of_month}
use Rattle.card_events.specs.declared.anchor.Anchor.{Anchor}
use Rattle.card_dayend.proofs.Closed.{open-of}
use Rattle.card_dayend.proofs.closing.close_day.Goals as goal

pub returns-else-is_closing-clause-closed : goal.returns-else-is_closing-clause-closed
returns-else-is_closing-clause-closed c =
    open-of c.args.inputs.now c.args.day c.args.state.now c.args.track.now
    c.requires.dated.opened
    (λ q. eqb-false (day_of_month c.args.day) c.anchor.result.close_day (sym c.is_closing.ensures ∙ c.if-is_closing.false) (q ∙ ap (λ (a : Anchor). a.close_day) (sym c.anchor.ensures.value))) c.requires.posted
