use Rattle.std.proofs.Common.{sym, arith}
use Rattle.std.proofs.lemmas.Bool.Decides.{nat_tests}
use Rattle.card_past.proofs.CycleBefore.{none-before}
use Rattle.card_replay.proofs.rewinding.cycles_before.Goals as goal

pub returns-then-lt : goal.returns-then-lt
returns-then-lt c =
    let less = c.if-lt.true in
    let means = c.lt.ensures in
    sym (none-before c.args.anchor.now c.args.day (grind (arith, nat_tests, less, means)))
