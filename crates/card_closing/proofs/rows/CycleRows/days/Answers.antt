use Rattle.std.proofs.Common.{ap, sym, ◌∙◌}
use Rattle.card_closing.specs.Runs.{run_days}
use Rattle.card_closing.proofs.Spreads.{length-spread, spread-days}
use Rattle.card_closing.proofs.rows.CycleRows.days.Goals as goal

pub returns-clause-value : goal.returns-clause-value
returns-clause-value c =
    c.days.ensures ∙ ap run_days c.deref.ensures.value ∙ rw (← c.self.view_is) (sym (length-spread c.self.inside.first c.self.inside.runs.items))

pub returns-clause-own_days : goal.returns-clause-own_days
returns-clause-own_days c = rw (← c.self.view_is) (spread-days c.self.inside.first c.self.inside.runs.items)
