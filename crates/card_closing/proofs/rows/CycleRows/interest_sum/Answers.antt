use Rattle.card_closing.proofs.Spreads.{spread-days}
use Rattle.card_closing.proofs.rows.CycleRows.interest_sum.Goals as goal

pub returns-clause-own_days : goal.returns-clause-own_days
returns-clause-own_days c = rw (← c.self.view_is) (spread-days c.self.inside.first c.self.inside.runs.items)
