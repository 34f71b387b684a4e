use Rattle.std.proofs.Common.{refl, ◌∙◌, arith}
use Rattle.std.proofs.lemmas.Int.{to_z_pos}
use mir.Syntax.{w64}
use Rattle.card_closing.proofs.rows.CycleRows.average.Goals as goal

pub returns-clause-value : goal.returns-clause-value
returns-clause-value c = to_z_pos w64 c.half_up.result (omega (arith, c.half_up.ensures.bound)) ∙ rw (c.half_up.ensures.value, c.balances.ensures.sum, c.days.ensures.value) refl

pub returns-clause-own_days : goal.returns-clause-own_days
returns-clause-own_days c = c.days.ensures.own_days
