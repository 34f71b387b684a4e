use Rattle.card_daily.proofs.Near.{near-at-most}
use Rattle.std.proofs.Common.{sym, ◌∙◌, arith}
use Rattle.card_daily.proofs.place.is_at_most.Goals as goal

pub returns : goal.returns
returns c place cut is =
    near-at-most c.args.slots.now c.args.day c.args.near place c.index-slots-before.result cut (omega (arith, c.if-near-eq0.false)) (omega arith) c.index-slots-before.is (sym c.is_early.ensures ∙ is)
