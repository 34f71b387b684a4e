use Rattle.std.proofs.Common.{◌∙◌, arith}
use Rattle.std.proofs.lemmas.Bool.Decides.{nat_tests}
use Rattle.card_disputes.proofs.DeadlineLemmas.{early-cycle, few-cycles}
use Rattle.card_disputes.proofs.deadline.cycle_on.Goals as goal

pub returns-then-lt-clause-value : goal.returns-then-lt-clause-value
returns-then-lt-clause-value c =
    let less = c.if-lt.true in
    let means = c.lt.ensures in
    c.cycle_of.ensures.value ∙ early-cycle c.args.anchor.now c.args.day (grind (arith, nat_tests, less, means))

pub returns-then-lt-clause-bound : goal.returns-then-lt-clause-bound
returns-then-lt-clause-bound c =
    let few = few-cycles c.args.anchor.now c.args.anchor.now.opened in
    let opened = c.requires.opened in
    omega (arith, few, opened, c.cycle_of.ensures.value)

pub returns-else-lt-clause-bound : goal.returns-else-lt-clause-bound
returns-else-lt-clause-bound c =
    let few = few-cycles c.args.anchor.now c.args.day in
    let dated = c.requires.dated in
    omega (arith, few, dated, c.cycle_of-else-lt.ensures.value)
