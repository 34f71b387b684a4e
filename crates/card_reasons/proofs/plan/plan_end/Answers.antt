use Rattle.std.proofs.Common.{ap, sym, ◌∙◌}
use Rattle.std.specs.Prelude.{max, nat_le}
use Rattle.std.specs.List.{count_by}
use Rattle.card_reasons.proofs.PlanLemmas.{ended}
use Rattle.card_reasons.proofs.plan.plan_end.Goals as goal
use Rattle.card_events.specs.Billing.{next_on}
use Rattle.card_events.specs.declared.anchor.Anchor.{Anchor}
use Rattle.card_events.specs.History.{adds_segment, anchor_of}
use Rattle.card_events.specs.declared.kept.Kept.{Kept}
use Rattle.std.proofs.Common.{List, ◌+◌}

pub returns : goal.returns
returns c now kind rate after same =
    c.reason_for.ensures
    ∙ ended now c.args.day rate c.args.end after kind c.closing_from-next.result c.six_months_after-least.result c.has_all_segments.result
    (c.closing_from-next.ensures ∙ ap (λ (a : Anchor). next_on a.close_day (max c.args.end a.opened)) (c.requires.cycles.anchor ∙ ap anchor_of (sym same))) c.six_months_after-least.ensures
    (c.has_all_segments.ensures ∙ ap (λ (h : List Kept). nat_le 64 (5 + count_by (λ (k : Kept). adds_segment k.post) h)) (sym same))
