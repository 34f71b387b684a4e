use Rattle.std.proofs.Common.{ap, arith}
use Rattle.std.specs.Prelude.{option_copied}
use Rattle.card_model.specs.Cycles.{Cycle}
use Rattle.card_dayend.proofs.closing.first_day.Goals as goal

pub next-requires : goal.next-requires
next-requires c =
    let few = c.requires c.in-Some.cycle.now (ap option_copied c.in-Some.is) in
    let same = ap (λ (x : Cycle). x.closing) c.cycle.view_is in
    omega (arith, few, same)
