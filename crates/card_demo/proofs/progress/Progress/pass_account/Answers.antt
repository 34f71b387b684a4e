use Rattle.std.proofs.Common.{◌≡◌, arith}
use Rattle.std.proofs.lemmas.Result.{on_ok_weaker}
use Rattle.card_demo.specs.Progress.{after}
use Rattle.card_demo.specs.Requests.{amend, bill, charges, payment}
use Rattle.card_demo.proofs.PieceLemmas.{charges_count}
use Rattle.card_demo.proofs.RunLemmas.{account_passed, bill_count, count_is, payment_count}
use Rattle.card_demo.proofs.progress.Progress.pass_account.Goals as goal

pub send_charges-requires-clause-room : goal.send_charges-requires-clause-room
send_charges-requires-clause-room c =
    let p = c.args.self.now in
    let one = count_is p c.send_bill.new.self (bill c.args.t c.args.i p.x) 1 c.in_ok-send_bill.ensures (bill_count c.args.t c.args.i p.x) in
    omega (arith, one, c.requires.room)

pub send_payment-requires-clause-room : goal.send_payment-requires-clause-room
send_payment-requires-clause-room c =
    let p = c.args.self.now in
    let a = c.send_bill.new.self in
    let one = count_is p a (bill c.args.t c.args.i p.x) 1 c.in_ok-send_bill.ensures (bill_count c.args.t c.args.i p.x) in
    let four = count_is a c.send_charges.new.self (charges c.args.t c.args.i 4 a.x) 4 c.in_ok-send_charges.ensures (charges_count c.args.t c.args.i 4 a.x) in
    omega (arith, one, four, c.requires.room)

pub send_amend-requires : goal.send_amend-requires
send_amend-requires c =
    let p = c.args.self.now in
    let a = c.send_bill.new.self in
    let b = c.send_charges.new.self in
    let one = count_is p a (bill c.args.t c.args.i p.x) 1 c.in_ok-send_bill.ensures (bill_count c.args.t c.args.i p.x) in
    let four = count_is a b (charges c.args.t c.args.i 4 a.x) 4 c.in_ok-send_charges.ensures (charges_count c.args.t c.args.i 4 a.x) in
    let last = count_is b c.send_payment.new.self (payment c.args.t c.args.i b.x) 1 c.in_ok-send_payment.ensures (payment_count c.args.t c.args.i b.x) in
    record { room = omega (arith, one, four, last, c.requires.room) }

pub returns : goal.returns
returns c =
    let p = c.args.self.now in
    let a = c.send_bill.new.self in
    let b = c.send_charges.new.self in
    let d = c.send_payment.new.self in
    let new = c.send_amend.new.self in
    on_ok_weaker c.send_amend.result
    (λ (e : new ≡ after d (amend c.args.t c.args.i d.x)). account_passed p a b d new c.args.t c.args.i c.in_ok-send_bill.ensures c.in_ok-send_charges.ensures c.in_ok-send_payment.ensures e) c.send_amend.ensures
