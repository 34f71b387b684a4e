use Rattle.std.proofs.Common.{◌≡◌, ℕ, arith, subst}
use Rattle.card_demo.specs.Progress.{after}
use Rattle.card_demo.specs.Requests.{charges}
use Rattle.card_demo.proofs.PieceLemmas.{charges_count}
use Rattle.card_demo.proofs.RunLemmas.{charged_more, charged_none, count_is}
use Rattle.card_demo.proofs.progress.Progress.send_charges.Goals as goal

pub loop-j-init : goal.loop-j-init
loop-j-init c = charged_none c.args.self.now c.args.t c.args.i

pub send_charge-requires-clause-room : goal.send_charge-requires-clause-room
send_charge-requires-clause-room c =
    let p = c.args.self.now in
    let j = c.loop-j.j in
    let count = count_is p c.loop-j.self (charges c.args.t c.args.i j p.x) j c.loop-j.invariant (charges_count c.args.t c.args.i j p.x) in
    omega (arith, count, c.loop-j-test.true, c.requires.room)

pub loop-j-preserved : goal.loop-j-preserved
loop-j-preserved c = charged_more c.args.self.now c.loop-j.self c.send_charge.new.self c.args.t c.args.i c.loop-j.j c.loop-j.invariant c.in_ok-send_charge.ensures

pub returns : goal.returns
returns c =
    let p = c.args.self.now in
    let all : c.loop-j.j ≡ 4 = omega arith in
    subst (λ (n : ℕ). c.loop-j.self ≡ after p (charges c.args.t c.args.i n p.x)) all c.loop-j.invariant
