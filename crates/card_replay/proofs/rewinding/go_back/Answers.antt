use Rattle.std.proofs.Common.{subst}
use Rattle.card_replay.proofs.Again.{closing-back, eve-back}
use Rattle.card_replay.specs.Rewinds.{MayGoBackOn}
use Rattle.card_replay.proofs.rewinding.go_back.Goals as goal

pub returns-in_ok-copy-in-Some : goal.returns-in_ok-copy-in-Some
returns-in_ok-copy-in-Some c = λ old g p reached may.
    let from = c.args.from in
    let cycle = c.args.cycle in
    let b = c.args.book.now in
    let past = c.args.past.now in
    let copied = c.in_ok-copy-in-Some.ensures in
    eve-back old from cycle b past c.in-Some.eve c.in_ok-copy-in-Some.field-0 (c.may_begin.ensures c.if-may_begin.true) copied.day copied.whole copied.stands g p reached
    (subst (λ o. MayGoBackOn old g p from cycle reached b past o) c.in-Some.is may)

pub returns-in_default : goal.returns-in_default
returns-in_default c = closing-back c.args.from c.args.cycle c.args.book.now c.args.past.now c.args.eve.now c.at_closing_if_any.result c.at_closing_if_any.ensures
