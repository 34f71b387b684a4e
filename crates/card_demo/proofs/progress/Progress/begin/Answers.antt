use Rattle.std.proofs.Common.{◌≡◌, arith, refl}
use Rattle.std.proofs.lemmas.Result.{on_ok_weaker}
use Rattle.card_demo.specs.Progress.{after}
use Rattle.card_demo.specs.Requests.{one}
use Rattle.card_demo.proofs.RunLemmas.{begun, count_is}
use Rattle.card_demo.proofs.progress.Progress.begin.Goals as goal

pub send-requires-2-clause-room : goal.send-requires-2-clause-room
send-requires-2-clause-room c =
    let p = c.args.self.now in
    let count = count_is p c.send.new.self (one c.fees_from_2011.result p.x) 1 c.in_ok-send.ensures refl in
    omega (arith, count, c.requires.room)

pub returns : goal.returns
returns c =
    let p = c.args.self.now in
    let q = c.send.new.self in
    let new = c.send-2.new.self in
    on_ok_weaker c.send-2.result
    (λ (e : new ≡ after q (one c.roll.result q.x)). begun p q new c.fees_from_2011.result c.roll.result c.fees_from_2011.ensures.request c.roll.ensures.request c.in_ok-send.ensures e) c.send-2.ensures
