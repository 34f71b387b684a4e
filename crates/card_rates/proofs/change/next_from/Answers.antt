use Rattle.std.proofs.Common.{◌<◌, ◌≤◌, sym, ◌∙◌, arith}
use Rattle.std.proofs.lemmas.Bool.Decides.{nat_tests}
use Rattle.card_rates.proofs.RowsAhead.{row-late, row-none, row-there}
use Rattle.card_rates.proofs.change.next_from.Goals as goal

pub returns-in-Some : goal.returns-in-Some
returns-in-Some c =
    let is = c.if-lt.ensures in
    let early : c.in-Some.day < c.args.end = grind (arith, nat_tests) in
    row-there c.args.index.now c.args.first c.args.end c.in-Some.day c.from.ensures.by_day c.in-Some.ensures.found early

pub returns-in_default : goal.returns-in_default
returns-in_default c =
    let is = c.if-lt.ensures in
    let late : c.args.end ≤ c.in-Some.day = grind (arith, nat_tests) in
    row-late c.args.index.now c.args.first c.args.end c.in-Some.day c.from.ensures.by_day c.requires c.in-Some.ensures.found late

pub returns-in_default-2 : goal.returns-in_default-2
returns-in_default-2 c =
    row-none c.args.index.now c.args.first c.args.end c.from.ensures.by_day c.requires (sym c.in_default.is ∙ c.from.ensures.found)
