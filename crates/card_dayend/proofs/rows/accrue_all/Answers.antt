use Rattle.std.proofs.Common.{sym, ◌∙◌, arith}
use Rattle.card_dayend.proofs.Each.{segment-count}
use Rattle.card_dayend.proofs.Accruing.{none-accrues}
use Rattle.card_dayend.proofs.rows.accrue_all.Goals as goal

pub returns-then-not-accrues_on-clause-accruals : goal.returns-then-not-accrues_on-clause-accruals
returns-then-not-accrues_on-clause-accruals c =
    let day = c.args.day in
    let none = sym c.accrues_on.ensures ∙ c.if-not-accrues_on.true in
    sym (none-accrues c.args.days day c.args.segments.now.balances c.args.rates.now.segments c.args.accruals.now.items none)

pub returns-then-not-accrues_on-clause-balances : goal.returns-then-not-accrues_on-clause-balances
returns-then-not-accrues_on-clause-balances c =
    let count = segment-count c.args.segments.now.segments c.args.rates.now c.requires.rated (omega (arith, c.len-count.ensures.five, c.len-count.ensures.segments)) in
    omega (arith, count, c.len-count.ensures.segments, c.len-count.ensures.balances)
