use Rattle.std.proofs.Common.{◌≡◌, ℕ, ◌*◌, arith, subst}
use Rattle.card_demo.specs.Progress.{after}
use Rattle.card_demo.specs.Requests.{accounts_cycle}
use Rattle.card_demo.proofs.PieceLemmas.{accounts_count}
use Rattle.card_demo.proofs.RunLemmas.{count_is, passed_more, passed_none}
use Rattle.card_demo.proofs.progress.Progress.pass_accounts.Goals as goal

pub loop-i-init : goal.loop-i-init
loop-i-init c = passed_none c.args.self.now c.args.t

pub pass_account-requires-clause-room : goal.pass_account-requires-clause-room
pass_account-requires-clause-room c =
    let p = c.args.self.now in
    let i = c.loop-i.i in
    let count = count_is p c.loop-i.self (accounts_cycle c.args.t i p.x) (7 * i) c.loop-i.invariant (accounts_count c.args.t i p.x) in
    omega (arith, count, c.loop-i-test.true, c.requires.accounts, c.requires.room)

pub loop-i-preserved : goal.loop-i-preserved
loop-i-preserved c = passed_more c.args.self.now c.loop-i.self c.pass_account.new.self c.args.t c.loop-i.i c.loop-i.invariant c.in_ok-pass_account.ensures

pub returns : goal.returns
returns c =
    let p = c.args.self.now in
    let all : c.loop-i.i ≡ c.args.accounts = omega arith in
    subst (λ (n : ℕ). c.loop-i.self ≡ after p (accounts_cycle c.args.t n p.x)) all c.loop-i.invariant
