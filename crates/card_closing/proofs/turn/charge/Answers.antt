use Rattle.std.proofs.Common.{◌≡◌, arith, sym, option_copied}
use Rattle.std.proofs.lemmas.List.{append-nil}
use Rattle.card_closing.proofs.Steps.{charge-none, charged-is, debited-none}
use Rattle.card_closing.proofs.turn.charge.Goals as goal

pub returns-clause-turn : goal.returns-clause-turn
returns-clause-turn c =
    charged-is _ c.args.note.now c.args.id c.args.asked c.charge_of-cents.result (record { amounts = c.args.done.now; entries = c.args.out.now.items }) c.add.new.done c.debit.new.out.items
    (c.charge_of-cents.ensures.value c.args.out.now.items c.requires.step) c.in_ok-add.ensures c.in_ok-debit.ensures.entries

pub returns-then-asked-eq0-clause-turn : goal.returns-then-asked-eq0-clause-turn
returns-then-asked-eq0-clause-turn c =
    let none : c.args.asked ≡ 0 = omega (arith, c.if-asked-eq0.true) in
    charged-is (option_copied c.args.issued) c.args.note.now c.args.id c.args.asked 0 (record { amounts = c.args.done.now; entries = c.args.out.now.items }) c.args.done.now c.args.out.now.items
    (charge-none (option_copied c.args.issued) (record { amounts = c.args.done.now; entries = c.args.out.now.items }) c.args.id c.args.asked none) (sym (append-nil c.args.done.now)) (debited-none c.args.note.now c.args.id c.args.out.now.items)
