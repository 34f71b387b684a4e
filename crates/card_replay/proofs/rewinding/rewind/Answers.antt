use Rattle.std.proofs.Common.{sym, subst, ◌∙◌, arith}
use Rattle.card_model.specs.CycleDays.{IsOpening}
use Rattle.card_replay.proofs.Again.{beginning-again, number-is}
use Rattle.card_replay.proofs.rewinding.rewind.Goals as goal

pub cycles_before-cycle-requires-clause-opening : goal.cycles_before-cycle-requires-clause-opening
cycles_before-cycle-requires-clause-opening c = subst IsOpening (sym c.anchor.ensures.value) c.anchor.ensures.sound.opening

pub cycles_before-cycle-requires-clause-last : goal.cycles_before-cycle-requires-clause-last
cycles_before-cycle-requires-clause-last c = let h = c.requires.change.before.changes in omega (arith, h.within, h.last)

pub with_rates-requires-clause-number : goal.with_rates-requires-clause-number
with_rates-requires-clause-number c = number-is c.args.inputs.now c.args.from c.cycles_before-cycle.ensures c.anchor.ensures.value

pub with_rates-requires-clause-some : goal.with_rates-requires-clause-some
with_rates-requires-clause-some c = omega (arith, c.if-cycle-eq0.false)

pub returns-then-cycle-eq0 : goal.returns-then-cycle-eq0
returns-then-cycle-eq0 c =
    let number = number-is c.args.inputs.now c.args.from c.cycles_before-cycle.ensures c.anchor.ensures.value in
    beginning-again c.requires.change.before c.at_beginning.result (sym number ∙ c.if-cycle-eq0.true) c.at_beginning.ensures
