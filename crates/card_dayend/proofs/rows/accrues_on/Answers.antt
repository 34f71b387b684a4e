use Rattle.std.proofs.Common.{sym, ◌∙◌}
use Rattle.card_dayend.proofs.Accruing.{none-accrues-on}
use Rattle.card_dayend.proofs.rows.accrues_on.Goals as goal

pub returns-then-not-may_accrue : goal.returns-then-not-may_accrue
returns-then-not-may_accrue c = sym (none-accrues-on c.args.day c.args.rates.now.segments (sym c.may_accrue.ensures ∙ c.if-not-may_accrue.true))
