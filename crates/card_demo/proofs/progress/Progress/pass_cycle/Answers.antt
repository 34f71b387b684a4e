use Rattle.std.proofs.Common.{◌≡◌, ◌*◌, arith}
use Rattle.std.proofs.lemmas.Result.{on_ok_weaker}
use Rattle.card_demo.specs.Progress.{after}
use Rattle.card_demo.specs.Requests.{accounts_cycle, one}
use Rattle.card_demo.proofs.PieceLemmas.{accounts_count}
use Rattle.card_demo.proofs.RunLemmas.{count_is, cycle_passed}
use Rattle.card_demo.proofs.progress.Progress.pass_cycle.Goals as goal

pub send-requires-clause-room : goal.send-requires-clause-room
send-requires-clause-room c =
    let p = c.args.self.now in
    let n = c.args.accounts in
    let count = count_is p c.pass_accounts.new.self (accounts_cycle c.args.t n p.x) (7 * n) c.in_ok-pass_accounts.ensures (accounts_count c.args.t n p.x) in
    omega (arith, count, c.requires.accounts, c.requires.room)

pub returns : goal.returns
returns c =
    let p = c.args.self.now in
    let q = c.pass_accounts.new.self in
    let new = c.send.new.self in
    on_ok_weaker c.send.result
    (λ (e : new ≡ after q (one c.roll.result q.x)). cycle_passed p q new c.args.accounts c.args.t c.roll.result c.roll.ensures.request c.in_ok-pass_accounts.ensures e) c.send.ensures
