use Rattle.std.proofs.Common.{◌∙◌, arith}
use Rattle.card_events.specs.Civil.{date_of}
use Rattle.card_events.proofs.LaterDays.{six_late, six_early, year_small}
use Rattle.card_events.proofs.later.six_months_after.Goals as goal

pub clipped-requires-clause-year_high : goal.clipped-requires-clause-year_high
clipped-requires-clause-year_high c = omega (arith, year_small c.args.day c.ymd-year.ensures.first c.requires, c.ymd-year.ensures.year)

pub returns-then-month-gt6 : goal.returns-then-month-gt6
returns-then-month-gt6 c =
    let at = c.ymd-year.ensures in
    c.clipped.ensures ∙ six_late (date_of c.args.day) c.ymd-year.result.0 c.ymd-year.result.1 c.ymd-year.result.2 at.year at.month at.day c.if-month-gt6.true

pub returns-else-month-gt6 : goal.returns-else-month-gt6
returns-else-month-gt6 c =
    let at = c.ymd-year.ensures in
    c.clipped-else-month-gt6.ensures ∙ six_early (date_of c.args.day) c.ymd-year.result.0 c.ymd-year.result.1 c.ymd-year.result.2 at.year at.month at.day c.if-month-gt6.false
